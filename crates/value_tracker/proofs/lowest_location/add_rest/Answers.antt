use Rattle.std.proofs.Common.{ℕ, length, arith, sym, subst, inl, inr}
use Rattle.std.specs.Prelude.{None, slice_index_or}
use Rattle.std.proofs.lemmas.Bool.Decides.{eqb_tells}
use Rattle.value_tracker.specs.LowestLocation.{IsFirstBelow}
use Rattle.value_tracker.proofs.FirstLocations.{first_of_all, first_of_zero, first_at_end}
use Rattle.value_tracker.proofs.lowest_location.add_rest.Goals as goal

pub returns-then-end-places : goal.returns-then-end-places
returns-then-end-places c = λ k.
    let places = c.args.places.now in
    let old = c.args.firsts.now in
    let new = c.add.new.firsts in
    let r = c.requires in
    elim (eqb_tells k 0) [
      | inl h ↦
          subst (λ (n : ℕ). IsFirstBelow (length places) places n (slice_index_or new n None)) (sym h.1)
          (first_of_zero places c.args.end r.rest r.within (slice_index_or old 0 None) (slice_index_or new 0 None) r.some
          (omega (arith, c.if-end-places.true)) (r.below 0) c.add.ensures.first c.add.ensures.later)
      | inr h ↦
          subst (IsFirstBelow (length places) places k) (sym (c.add.ensures.kept k h.1))
          (first_of_all places c.args.end r.rest r.within k (slice_index_or old k None) h.1 (r.below k))
    ]

pub returns-else-end-places : goal.returns-else-end-places
returns-else-end-places c = λ k.
    first_at_end c.args.places.now c.args.end c.requires.rest c.requires.within k (slice_index_or c.args.firsts.now k None)
    (omega (arith, c.if-end-places.false)) (c.requires.below k)

pub add-requires : goal.add-requires
add-requires c = let some = c.requires.room c.args.end (omega (arith, c.if-end-places.true)) in omega (arith, some)
