use Rattle.std.proofs.Common.{◌≡◌, ℕ, List, refl, sym, ◌∙◌, ap, inl, inr}
use Rattle.std.specs.Prelude.{ℤ, Option, None, Bool, true, false, cond, nat_eq, slice_index, slice_index_or}
use Rattle.std.proofs.lemmas.Bool.Decides.{eqb_tells}
use Rattle.rv64_instr.specs.declared.place.Place.{Place}
use Rattle.value_tracker.specs.ClassLocation.{place_of}
use Rattle.location_ranges.proofs.places.renew_place.Goals as goal

-- what stands at an index already
kept : (xs : List (Option Place)) (j k : ℕ) (p : Option Place) → slice_index_or xs j None ≡ p →
    slice_index_or xs k None ≡ cond (nat_eq k j) p (slice_index_or xs k None)
kept xs j k p here = elim (eqb_tells k j) [
  | inl h ↦ ap (λ (n : ℕ). slice_index_or xs n None) h.1 ∙ here ∙ sym (ap (λ (z : Bool). cond z p (slice_index_or xs k None)) h.0)
  | inr h ↦ sym (ap (λ (z : Bool). cond z p (slice_index_or xs k None)) h.0)
]

-- no class, no place
no_place : (reached : Bool) (firsts : List (Option ℕ)) (constants : List (Option ℤ)) (class : ℕ) → class ≡ 0 →
    None ≡ cond reached (place_of firsts constants class) None
no_place true firsts constants class none = sym (ap (place_of firsts constants) none)
no_place false firsts constants class none = refl

pub returns-then-is_idle-clause-places : goal.returns-then-is_idle-clause-places
returns-then-is_idle-clause-places c = λ k.
    let s = c.args.stand.now in
    let none = ap (λ (ps : List (Option Place)). slice_index_or ps c.args.j None) (sym c.as_slice.ensures.value) ∙ c.is_idle.ensures.place c.if-is_idle.true in
    kept c.args.places.now.items c.args.j k _
    (none ∙ no_place s.reached c.args.firsts.now s.constants.items (slice_index s.held.parts.items c.args.j) (c.is_idle.ensures.class c.if-is_idle.true))

pub returns-then-is_idle-clause-same : goal.returns-then-is_idle-clause-same
returns-then-is_idle-clause-same c = λ off.
    let s = c.args.stand.now in
    let none = ap (λ (ps : List (Option Place)). slice_index_or ps c.args.j None) (sym c.as_slice.ensures.value) ∙ c.is_idle.ensures.place c.if-is_idle.true in
    none ∙ no_place s.reached c.args.firsts.now s.constants.items (slice_index s.held.parts.items c.args.j) (c.is_idle.ensures.class c.if-is_idle.true)

pub returns-clause-places : goal.returns-clause-places
returns-clause-places c = λ k.
    c.set_place.ensures.places k
    ∙ ap (λ (p : Option Place). cond (nat_eq k c.args.j) p (slice_index_or c.args.places.now.items k None)) c.place_part-place.ensures

pub returns-clause-same : goal.returns-clause-same
returns-clause-same c = λ off. c.set_place.ensures.same off ∙ c.place_part-place.ensures
