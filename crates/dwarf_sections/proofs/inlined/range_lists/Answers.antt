use Rattle.std.proofs.Common.{◌+◌, ◌++◌, List, drop, map, append_assoc, ◌∙◌, sym, ap}
use Rattle.dwarf_unit.proofs.dwarf_line_table.Split.{split_at}
use Rattle.dwarf_rnglists.specs.declared.range.AddressRange.{AddressRange}
use Rattle.dwarf_unit.specs.inline_subroutines.declared.subroutine.InlinedSubroutine.{InlinedSubroutine}
use Rattle.dwarf_sections.specs.Inlined.{range_lists}
use Rattle.dwarf_sections.proofs.inlined.range_lists.Goals as goal

pub loop-within-preserved : goal.loop-within-preserved
loop-within-preserved c =
    let all = c.args.all.now in
    let index = c.loop-within.within-index in
    let lists = λ (is : List InlinedSubroutine). map (λ i. i.ranges) is in
    let rest = range_lists (drop (index + 1) all) in
    ap (λ (ls : List (List AddressRange)). ls ++ rest)
    (c.in_ok-push_ranges.ensures ∙ ap (λ (is : List InlinedSubroutine). c.loop-within.lists ++ lists is) c.as_slice.ensures)
    ∙ append_assoc c.loop-within.lists (lists c.within-item.result) rest
    ∙ ap (λ (l : List (List InlinedSubroutine)). c.loop-within.lists ++ range_lists l)
    (sym (split_at all index c.within-item.result c.loop-within-test.true c.within-item.is))
    ∙ c.loop-within.invariant
