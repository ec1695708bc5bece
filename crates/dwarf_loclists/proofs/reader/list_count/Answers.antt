use Rattle.std.proofs.Common.{List, length, sym, ap, ◌∙◌}
use Rattle.dwarf_loclists.specs.declared.range.Range.{Range}
use Rattle.dwarf_loclists.proofs.OneReading.{one_section}
use Rattle.dwarf_loclists.proofs.WholeLemmas.{all_right}
use Rattle.dwarf_loclists.proofs.reader.list_count.Goals as goal

pub returns-clause-ok : goal.returns-clause-ok
returns-clause-ok c =
    let a = c.in_ok-read_lists.ensures.ok in
    (a.lists, all_right c.args.bytes.now a.lists a.reached, sym a.all)

pub returns-clause-count : goal.returns-clause-count
returns-clause-count c = λ lists is.
    let a = c.in_ok-read_lists.ensures.ok in
    sym a.all ∙ ap (λ (ls : List (List Range)). length ls) (one_section c.args.bytes.now a.lists lists (all_right c.args.bytes.now a.lists a.reached) is)
