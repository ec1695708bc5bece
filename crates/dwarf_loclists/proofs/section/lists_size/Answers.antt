use Rattle.std.proofs.Common.{refl, arith, ◌≡◌, ◌<◌, ◌≤◌, ◌+◌, ◌*◌, ◌^◌, length, ap, mul-le-mul_right}
use Rattle.std.proofs.lemmas.Grind.{common_steps}
use Rattle.dwarf_loclists.specs.Spelling.{spelling, list_spelling}
use Rattle.dwarf_loclists.proofs.SpellingLemmas.{counted_more, counted_all, short_one, places_in}
use Rattle.dwarf_loclists.proofs.section.lists_size.Goals as goal

pub returns-in_err-size-clause-none : goal.returns-in_err-size-clause-none
returns-in_err-size-clause-none c =
    let above : 2147483648 ≤ c.loop-list.size + 4 + length (list_spelling c.as_slice.result.now) = c.in_err-size.ensures.none.0 refl in
    let more : 2147483648 ≤ length (spelling c.args.lists.now) =
    counted_more _ _ _ _ _ _ c.as_slice-list-items.ensures c.loop-list-test.true c.list-item.is c.loop-list.invariant.counted (rw c.as_slice.ensures at above)
    in
    ((λ _. more), λ _. rw c.from_residual.ensures refl)

pub returns-clause-none : goal.returns-clause-none
returns-clause-none c =
    let all : c.loop-list.size ≡ length (spelling c.args.lists.now) =
    counted_all _ _ _ _ c.as_slice-list-items.ensures c.loop-list-test.false c.loop-list.auto.list-index-end c.loop-list.invariant.counted in
    ((λ e. absurd cc), λ above. absurd (omega (arith, c.loop-list.invariant.small)))

pub returns-clause-size : goal.returns-clause-size
returns-clause-size c = counted_all _ _ _ _ c.as_slice-list-items.ensures c.loop-list-test.false c.loop-list.auto.list-index-end c.loop-list.invariant.counted

pub loop-list-preserved : goal.loop-list-preserved
loop-list-preserved c = record {
  counted = grind (arith, common_steps);
  small = grind (arith, common_steps);
  grown = λ n all.
      let short : places_in c.as_slice.result.now ≤ n =
      short_one c.args.lists.now c.as_slice-list-items.result.now c.loop-list.list-index c.list-item.result c.as_slice.result.now n
      c.as_slice-list-items.ensures c.loop-list-test.true c.list-item.is c.as_slice.ensures all in
      let before = c.loop-list.invariant.grown n all in
      omega (arith, c.in_ok-size.ensures.grown);
}

pub returns-in_err-size-clause-few : goal.returns-in_err-size-clause-few
returns-in_err-size-clause-few c = λ n all fits.
    let short : places_in c.as_slice.result.now ≤ n =
    short_one c.args.lists.now c.as_slice-list-items.result.now c.loop-list.list-index c.list-item.result c.as_slice.result.now n
    c.as_slice-list-items.ensures c.loop-list-test.true c.list-item.is c.as_slice.ensures all in
    let before = c.loop-list.invariant.grown n all in
    let inside : c.loop-list.list-index + 1 ≤ length c.args.lists.now = omega (arith, ap length c.as_slice-list-items.ensures, c.loop-list-test.true) in
    let rows : (c.loop-list.list-index + 1) * (5 + 65 * n) ≤ length c.args.lists.now * (5 + 65 * n) = mul-le-mul_right (5 + 65 * n) inside in
    let room : c.loop-list.size + 5 + 65 * places_in c.as_slice.result.now < 2 ^ 31 = omega arith in
    absurd (cc (c.in_err-size.ensures.few room))
