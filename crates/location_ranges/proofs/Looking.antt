-- The first place by the tables of the walk is the one that is wanted.
--
-- Where some path leads, the first place of a part's class is the one that is wanted for it; where none leads, none is wanted. A part that no
-- mark assigns to has no token, and none is wanted for it either.
use Rattle.std.proofs.Common.{◌≡◌, ℕ, zero, suc, ◌≤◌, List, [], ◌∷◌, map, length, arith, refl, sym, ◌∙◌, ap, subst, inl, inr}
use Rattle.std.specs.Prelude.{Option, Some, None, Bool, true, false, cond, slice_get, slice_index, slice_index_or, Contains}
use Rattle.std.proofs.lemmas.Bool.{cases_lt}
use Rattle.std.proofs.lemmas.Option.{slice_get_within, get_or_from_slice_get, slice_get_cases}
use Rattle.std.proofs.lemmas.List.{get_or_past}
use Rattle.rv64_instr.specs.declared.place.Place.{Place}
use Rattle.rv64_instr.specs.declared.place.Place.TheVariants.{Register, Slot, Const}
use Rattle.mir_func.specs.declared.block.Block.{Block}
use Rattle.mir_func.specs.declared.position.Pos.{Pos}
use Rattle.mir_func.specs.declared.variable.VarId.{VarId}
use Rattle.mir_func.specs.Graph.{Program, block_start}
use Rattle.mir_func.specs.Successors.{pos_in}
use Rattle.location_of_variable.specs.sem_mir.PreferredLocation.{NoneIsPreferred}
use Rattle.value_tracker.specs.sem_value_ids.Pullback.{OfVariable}
use Rattle.value_tracker.specs.value_solver.declared.tracked.Tracked.{Tracked}
use Rattle.value_tracker.specs.value_solver.declared.tracked.Tracked.TheVariants.{Pair, Part, Number}
use Rattle.value_tracker.specs.value_solver.declared.tracked.Tracked.TheVariants as tracked
use Rattle.value_tracker.specs.value_solver.Entry.{thing}
use Rattle.value_tracker.specs.value_proof.PreferredByClass.{HasItsClass, IsFirstByClass, IsWantedOrNone}
use Rattle.value_tracker.proofs.value_proof.Wanted.{first_by_class_is_wanted, unmarked_is_nowhere}
use Rattle.value_tracker.proofs.Constants.{place_is_first}
use Rattle.value_tracker.specs.declared.index.TrackedIndex.{TrackedIndex}
use Rattle.value_tracker.specs.LowestLocation.{AreFirsts}
use Rattle.value_tracker.specs.ClassLocation.{place_of}
use Rattle.dwarf_loclists.specs.Ranges.{IsListed}
use Rattle.location_of_variable.specs.VariableLocation.{IsWantedPlace, AreWantedPlaces}
use Rattle.location_ranges.specs.declared.transfer_tracker.TransferTracker.{TransferTracker}
use Rattle.location_ranges.specs.declared.values.Values.{Values}
use Rattle.location_ranges.specs.Stands.{program, AreValuesOf, Reaches, Stands}
use Rattle.location_ranges.specs.steps.Places.{ArePlacesAt}

-- ---- by classes

module _ (g : Program) (start : Pos) (v : Values) (index : TrackedIndex) (s : TransferTracker) (r : Reaches g v index s) (firsts : List (Option ℕ))
    (are : AreFirsts s.held.places.items firsts) (w : VarId) where
  pub first_by_class : IsFirstByClass (map thing v.things.now) r.class w (place_of firsts s.constants.items (r.class (OfVariable w)))
  first_by_class = place_is_first v.variables.now v.things.now index s.settled.items s.held r.class r.held firsts s.constants.items are r.constants w
      (r.class (OfVariable w)) refl

  has_listed : (place : Place) → HasItsClass (map thing v.things.now) r.class w place → IsListed place
  has_listed (Register q) has =
      let named = has.named in
      let low = named.0 in
      let positive = named.1 in
      (omega (arith, positive), omega (arith, low), named.2)
  has_listed (Slot n) has = r.held.offsets n has.known
  has_listed (Const c) has = tt

  first_listed : (o : Option Place) → IsFirstByClass (map thing v.things.now) r.class w o → (place : Place) → o ≡ Some place → IsListed place
  first_listed None first place e = absurd (let no : None ≡ Some place = e in cc)
  first_listed (Some q) first place e = let same : q ≡ place = cc in subst IsListed same (has_listed q first.0)

-- ---- the places of parts

wanted_or : (g : Program) (start : Pos) (w : VarId) (p : Pos) (o : Option Place) → IsWantedOrNone g start w p o → IsWantedPlace g start w p o
wanted_or g start w p None is = is
wanted_or g start w p (Some q) is = is

pub thing_at : (things : List Tracked) (j : ℕ) (x : Tracked) → slice_get things j ≡ Some x → Contains (map thing things) (thing x)
thing_at [] j x e = absurd (let no : None ≡ Some x = e in cc)
thing_at (y ∷ ys) zero x e = let same : y ≡ x = cc in (0, omega arith, ap thing same)
thing_at (y ∷ ys) (suc j) x e = let h = thing_at ys j x e in (suc h.0, let lt = h.1 in omega (arith, lt), h.2)

part_is : (x : Tracked) (w : VarId) → thing x ≡ OfVariable w → x ≡ Part w
part_is (tracked.Register q) w e = cc
part_is (tracked.Slot n) w e = cc
part_is (Pair q) w e = cc
part_is (Part u) w e = let same : u ≡ w = cc in ap Part same
part_is (Number c) w e = cc

at_thing : (things : List Tracked) (w : VarId) → Contains (map thing things) (OfVariable w) → (j : ℕ) × (slice_get things j ≡ Some (Part w))
at_thing [] w (k, lt, e) = absurd (omega (arith, lt))
at_thing (y ∷ ys) w (zero, lt, e) = (0, ap (λ (z : Tracked). Some z) (part_is y w e))
at_thing (y ∷ ys) w (suc k, lt, e) = let h = at_thing ys w (k, omega (arith, lt), e) in (suc h.0, h.1)

module _ (blocks : List Block) (v : Values) (index : TrackedIndex) (are : AreValuesOf blocks v) (s : TransferTracker) (stands : Stands blocks v index s)
    (found : List (Option Place)) (count : length found ≡ length v.variables.now) (at : ArePlacesAt s found) where
  abbrev g : Program
  g = program blocks v.subs.now

  abbrev here : Pos
  here = pos_in s.block s.item

  abbrev found_at : ℕ → Option Place
  found_at j = slice_index_or found j None

  others : (w : VarId) → (Contains v.variables.now w → ⊥) → NoneIsPreferred g (block_start 0) w here
  others w not =
      unmarked_is_nowhere g (block_start 0) here (map thing v.things.now) are.of w (λ c.
      let h = at_thing v.things.now w c in
      let j = are.things.parts h.0 w h.1 in
      not (h.0, slice_get_within v.variables.now h.0 w j, get_or_from_slice_get v.variables.now h.0 w w j))

  none_past : (j : ℕ) → length found ≤ j → found_at j ≡ None
  none_past j le = get_or_past found j None le

  -- where some path leads
  module _ (on : s.reached ≡ true) where
    r : Reaches g v index s
    r = stands.reached on

    found_is : (j : ℕ) (w : VarId) → slice_get v.variables.now j ≡ Some w →
        (o : Option Place) × (found_at j ≡ o) × IsFirstByClass (map thing v.things.now) r.class w o
    found_is j w e =
        let lt = slice_get_within v.variables.now j w e in
        let part = r.held.parts j w e in
        let class = get_or_from_slice_get s.held.parts.items j (r.class (OfVariable w)) 0 part in (
          place_of at.firsts s.constants.items (r.class (OfVariable w)),
          at.each j (omega (arith, lt, count))
              ∙ (ap (λ (b : Bool). cond b (place_of at.firsts s.constants.items (slice_index s.held.parts.items j)) None) on
              ∙ ap (place_of at.firsts s.constants.items) class),
          first_by_class g (block_start 0) v index s r at.firsts at.are w,
        )

    reached_each : (j : ℕ) (w : VarId) → slice_get v.variables.now j ≡ Some w → IsWantedPlace g (block_start 0) w here (found_at j)
    reached_each j w e =
        let f = found_is j w e in
        let tracked = thing_at v.things.now j (Part w) (are.things.variables_first j w e) in
        subst (IsWantedPlace g (block_start 0) w here) (sym f.1) (wanted_or g (block_start 0) w here f.0
        (first_by_class_is_wanted g (block_start 0) here (map thing v.things.now) r.class are.of r.classes w tracked f.0 f.2))

    reached_listed : (j : ℕ) (place : Place) → found_at j ≡ Some place → IsListed place
    reached_listed j place e = elim (slice_get_cases v.variables.now j).1 [
      | inl h ↦
          let f = found_is j h.0 h.2 in
          first_listed g (block_start 0) v index s r at.firsts at.are h.0 f.0 f.2 place (sym f.1 ∙ e)
      | inr h ↦ absurd (let le = h.0 in let none = none_past j (omega (arith, le, count)) in let no : None ≡ Some place = sym none ∙ e in cc)
    ]

  -- where none does
  module _ (off : s.reached ≡ false) where
    nowhere : (w : VarId) → NoneIsPreferred g (block_start 0) w here
    nowhere w place named sits = stands.unreached off sits.reached

    found_none : (j : ℕ) → found_at j ≡ None
    found_none j = elim (cases_lt j (length found)) [
      | inl lt ↦ at.each j lt ∙ ap (λ (b : Bool). cond b (place_of at.firsts s.constants.items (slice_index s.held.parts.items j)) None) off
      | inr le ↦ none_past j le
    ]

  wanted_by : (b : Bool) → s.reached ≡ b → AreWantedPlaces g (block_start 0) here v.variables.now found
  wanted_by true on = record { each = reached_each on; listed = reached_listed on; others = others }
  wanted_by false off = record {
    each = λ j w e. subst (IsWantedPlace g (block_start 0) w here) (sym (found_none off j)) (nowhere off w);
    listed = λ j place e. absurd (let no : None ≡ Some place = sym (found_none off j) ∙ e in cc);
    others = others;
  }

  -- what was looked up are the places that are wanted
  pub places_wanted : AreWantedPlaces g (block_start 0) here v.variables.now found
  places_wanted = wanted_by s.reached refl
