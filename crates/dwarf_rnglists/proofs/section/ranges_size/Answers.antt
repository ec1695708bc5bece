use Rattle.std.proofs.Common.{refl, arith, ◌≡◌, ◌≤◌, ◌+◌, length}
use Rattle.dwarf_rnglists.specs.Spelling.{spelling, list_spelling}
use Rattle.dwarf_rnglists.proofs.SpellingLemmas.{counted_more, counted_all}
use Rattle.dwarf_rnglists.proofs.section.ranges_size.Goals as goal

pub returns-in_err-size-clause-none : goal.returns-in_err-size-clause-none
returns-in_err-size-clause-none c =
    let above : 2147483648 ≤ c.loop-list.size + 4 + length (list_spelling c.as_slice.result.now) = c.in_err-size.ensures.none.0 refl in
    let more : 2147483648 ≤ length (spelling c.args.lists.now) =
    counted_more _ _ _ _ _ _ c.as_slice-list-items.ensures c.loop-list-test.true c.list-item.is c.loop-list.invariant.counted (rw c.as_slice.ensures at above)
    in
    ((λ _. more), λ _. rw c.from_residual.ensures refl)

pub returns-clause-none : goal.returns-clause-none
returns-clause-none c =
    let all : c.loop-list.size ≡ length (spelling c.args.lists.now) =
    counted_all _ _ _ _ c.as_slice-list-items.ensures c.loop-list-test.false c.loop-list.auto.list-index-end c.loop-list.invariant.counted in
    ((λ e. absurd cc), λ above. absurd (omega (arith, c.loop-list.invariant.small)))

pub returns-clause-size : goal.returns-clause-size
returns-clause-size c = counted_all _ _ _ _ c.as_slice-list-items.ensures c.loop-list-test.false c.loop-list.auto.list-index-end c.loop-list.invariant.counted
