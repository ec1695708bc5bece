-- The first place by classes is wanted: a place sits with a variable exactly where they have one class.
use Rattle.std.proofs.Common.{◌≡◌, ℕ, List, refl, sym, ◌∙◌}
use Rattle.std.specs.Prelude.{Option, Some, None, Contains}
use Rattle.rv64_instr.specs.declared.place.Place.{Place}
use Rattle.rv64_instr.specs.declared.place.Place.TheVariants.{Register, Slot, Const}
use Rattle.rv64_instr.specs.Arithmetic.{word}
use Rattle.mir_func.specs.declared.position.Pos.{Pos}
use Rattle.mir_func.specs.declared.variable.VarId.{VarId}
use Rattle.mir_func.specs.Graph.{Program}
use Rattle.sem_mir.specs.ValueId.{Fixed, Tokens, place_token, variable_token}
use Rattle.sem_mir.specs.PreferredLocation.{IsPlace, SitsIn}
use Rattle.sem_value_ids.specs.Pullback.{Tracked, InSlot, OfVariable, token_of}
use Rattle.value_proof.specs.Classes.{Classes, IsKnown, ShareOnPaths, AreClasses}
use Rattle.value_proof.specs.PreferredByClass.{thing_at, HasItsClass, IsFirstByClass, IsWantedOrNone, AreEnoughFor, FirstByClassIsWanted, UnmarkedIsNowhere}
use Rattle.value_proof.proofs.Known.{path_knows, path_bare, slot, variable}

-- a place's token is that of what it holds
place_is : (place : Place) (t : Tokens) → token_of (thing_at place) t ≡ place_token (Some place) t
place_is (Register r) t = refl
place_is (Slot n) t = refl
place_is (Const c) t = refl

module _ (g : Program) (start p : Pos) (things : List Tracked) (class : Classes) (of : AreEnoughFor g things)
    (are : AreClasses g start p things class) (v : VarId) (tracked : Contains things (OfVariable v)) where
  share_by : (place : Place) → SitsIn g start v place p → ShareOnPaths g start p (OfVariable v) (thing_at place)
  share_by place sits n t path = let k = sits.same n t path in (k.0, k.1, place_is place t ∙ k.2)

  slot_known : (n : ℕ) → SitsIn g start v (Slot n) p → (Contains things (InSlot n) → ⊥) → ⊥
  slot_known n sits bare =
      let k = sits.same are.reached.0 are.reached.1 are.reached.2 in
      let none = path_bare g things of are.reached.2 (InSlot n) (slot n bare) in
      let some : token_of (InSlot n) are.reached.1 ≡ Some k.0 = k.2 in
      cc

  not_unknown : (place : Place) → IsPlace place → SitsIn g start v place p → (IsKnown things (thing_at place) → ⊥) → ⊥
  not_unknown (Register r) named sits h = h named.0
  not_unknown (Slot n) named sits h = slot_known n sits h
  not_unknown (Const c) named sits h =
      let k = sits.same are.reached.0 are.reached.1 are.reached.2 in
      let fixed : variable_token v are.reached.1 ≡ Some (Fixed (word c)) = k.1 ∙ sym k.2 in
      h (path_knows g things of are.reached.2 (OfVariable v) (word c) tracked fixed)

  -- a place that it sits in has its class
  pub not_without_class : (place : Place) → IsPlace place → SitsIn g start v place p → (HasItsClass things class v place → ⊥) → ⊥
  not_without_class place named sits h = not_unknown place named sits (λ known.
      h (record { named = named; known = known; one = (are.one (OfVariable v) (thing_at place) tracked known).1 (share_by place sits) }))

  pub class_sits : (place : Place) → HasItsClass things class v place → SitsIn g start v place p
  class_sits place has =
      let share = (are.one (OfVariable v) (thing_at place) tracked has.known).0 has.one in
      record {
        reached = are.reached;
        same = λ n t path. let k = share n t path in (k.0, k.1, sym (place_is place t) ∙ k.2);
      }

  pub first_is_wanted : (place : Option Place) → IsFirstByClass things class v place → IsWantedOrNone g start v p place
  first_is_wanted None none = λ place named sits. not_without_class place named sits (none place)
  first_is_wanted (Some place) first = record {
    named = first.0.named;
    sits = class_sits place first.0;
    first = λ other named before sits. not_without_class other named sits (first.1 other before);
  }

pub first_by_class_is_wanted : FirstByClassIsWanted
first_by_class_is_wanted g start p things class of are v tracked place first = first_is_wanted g start p things class of are v tracked place first

pub unmarked_is_nowhere : UnmarkedIsNowhere
unmarked_is_nowhere g start p things of v bare place named sits =
    let reached = sits.reached in
    let k = sits.same reached.0 reached.1 reached.2 in
    let none = path_bare g things of reached.2 (OfVariable v) (variable v bare) in
    let some : token_of (OfVariable v) reached.1 ≡ Some k.0 = k.1 in
    cc
