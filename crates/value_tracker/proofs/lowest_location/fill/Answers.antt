use Rattle.std.proofs.Common.{◌≡◌, ℕ, arith, subst}
use Rattle.std.specs.Prelude.{None, slice_index_or}
use Rattle.value_tracker.specs.LowestLocation.{IsFirstBelow}
use Rattle.value_tracker.proofs.lowest_location.fill.Goals as goal

pub add_rest-requires-clause-below : goal.add_rest-requires-clause-below
add_rest-requires-clause-below c = λ k.
    let is : c.loop-i.i ≡ c.args.end = omega (arith, c.loop-i-test.false, c.loop-i.auto.i-end) in
    subst (λ (n : ℕ). IsFirstBelow n c.args.places.now k (slice_index_or c.loop-i.firsts k None)) is (c.loop-i.invariant k)
