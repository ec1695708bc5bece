use Rattle.std.proofs.Common.{ℕ, ◌+◌, ◌++◌, List, Option, drop, map, append_assoc, ◌∙◌, sym, ap}
use Rattle.dwarf_line_table.proofs.Split.{split_at}
use Rattle.inline_subroutines.specs.inline_instances.Instances.{scope_of_call}
use Rattle.inline_subroutines.specs.declared.subroutine.InlinedSubroutine.{InlinedSubroutine}
use Rattle.dwarf_unit.specs.Inlined.{call_scopes}
use Rattle.dwarf_unit.proofs.inlined.call_scopes.Goals as goal

pub loop-within-preserved : goal.loop-within-preserved
loop-within-preserved c =
    let meta = c.args.meta.now in
    let all = c.args.instances.now in
    let index = c.loop-within.within-index in
    let scopes = λ (is : List InlinedSubroutine). map (λ i. scope_of_call meta i.call) is in
    let rest = call_scopes meta (drop (index + 1) all) in
    ap (λ (ss : List (Option ℕ)). ss ++ rest)
    (c.in_ok-push_scopes.ensures ∙ ap (λ (is : List InlinedSubroutine). c.loop-within.scopes ++ scopes is) c.as_slice.ensures)
    ∙ append_assoc c.loop-within.scopes (scopes c.within-item.result) rest
    ∙ ap (λ (l : List (List InlinedSubroutine)). c.loop-within.scopes ++ call_scopes meta l)
    (sym (split_at all index c.within-item.result c.loop-within-test.true c.within-item.is))
    ∙ c.loop-within.invariant
