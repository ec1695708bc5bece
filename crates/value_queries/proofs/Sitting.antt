-- What sits in a place, by classes. Where a thing and a place have one class, on every path they have one token. The other way round, what has
-- no class though it is none of the tracked things has no token on any path, but for numbers: and a number that isn't tracked nothing tracked
-- has.
use Rattle.std.proofs.Common.{◌≡◌, ◌≢◌, ℕ, List, refl, sym, ◌∙◌}
use Rattle.std.specs.Prelude.{Option, Some}
use Rattle.rv64_instr.specs.declared.place.Place.{Place}
use Rattle.rv64_instr.specs.declared.place.Place.TheVariants.{Register, Slot, Const}
use Rattle.rv64_instr.specs.Arithmetic.{word}
use Rattle.mir_func.specs.declared.position.Pos.{Pos}
use Rattle.mir_func.specs.Graph.{Program}
use Rattle.sem_mir.specs.ValueId.{Token, Tokens, Sits, place_token}
use Rattle.sem_mir.specs.PreferredLocation.{IsPlace}
use Rattle.sem_value_ids.specs.Pullback.{Tracked, InSlot, token_of}
use Rattle.value_proof.specs.Classes.{Classes, IsKnown, AreClasses}
use Rattle.value_proof.specs.PreferredByClass.{thing_at, AreEnoughFor}
use Rattle.value_proof.proofs.Known.{IsBare, slot, path_knows, path_bare}

-- a class of a thing: 0 where it isn't tracked, and then it has no token
pub record Told (things : List Tracked) (class : Classes) (x : Tracked) (c : ℕ) : Type 0 where
  pub known : IsKnown things x → c ≡ class x
  pub others : c ≢ 0 → IsKnown things x
  pub bare : (IsKnown things x → ⊥) → IsBare things x

-- a class of a place: 0 where a list can't name it, or it isn't tracked
pub record PlaceTold (things : List Tracked) (class : Classes) (place : Place) (c : ℕ) : Type 0 where
  pub known : IsPlace place → IsKnown things (thing_at place) → c ≡ class (thing_at place)
  pub named : c ≢ 0 → IsPlace place
  pub others : c ≢ 0 → IsKnown things (thing_at place)

-- a place's token is that of what it holds
pub place_is : (place : Place) (t : Tokens) → token_of (thing_at place) t ≡ place_token (Some place) t
place_is (Register r) t = refl
place_is (Slot n) t = refl
place_is (Const c) t = refl

module _ (g : Program) (start p : Pos) (things : List Tracked) (class : Classes) (of : AreEnoughFor g things)
    (are : AreClasses g start p things class) where
  never_bare : (x : Tracked) (y : Tokens → Option Token) → IsBare things x → Sits g start (token_of x) y p → ⊥
  never_bare x y bare sits =
      let k = sits.same are.reached.0 are.reached.1 are.reached.2 in
      let none = path_bare g things of are.reached.2 x bare in
      let some : token_of x are.reached.1 ≡ Some k.0 = k.1 in
      cc

  not_unknown : (x : Tracked) → IsKnown things x → (place : Place) → IsPlace place → Sits g start (token_of x) (place_token (Some place)) p →
      (IsKnown things (thing_at place) → ⊥) → ⊥
  not_unknown x known (Register r) named sits h = h named.0
  not_unknown x known (Slot n) named sits h =
      let k = sits.same are.reached.0 are.reached.1 are.reached.2 in
      let none = path_bare g things of are.reached.2 (InSlot n) (slot n h) in
      let some : token_of (InSlot n) are.reached.1 ≡ Some k.0 = k.2 in
      cc
  not_unknown x known (Const c) named sits h =
      let k = sits.same are.reached.0 are.reached.1 are.reached.2 in
      h (path_knows g things of are.reached.2 x (word c) known (k.1 ∙ sym k.2))

  both_known : (x : Tracked) (place : Place) → ((IsKnown things x → ⊥) → IsBare things x) → IsPlace place →
      Sits g start (token_of x) (place_token (Some place)) p → (IsKnown things x → IsKnown things (thing_at place) → ⊥) → ⊥
  both_known x place bare named sits h =
      let unknown : (IsKnown things x → ⊥) → ⊥ = λ no. never_bare x (place_token (Some place)) (bare no) sits in
      unknown (λ known. not_unknown x known place named sits (h known))

  -- with one class it sits there
  pub sits_by_class : (x : Tracked) (place : Place) (c d : ℕ) → Told things class x c → PlaceTold things class place d → c ≢ 0 → c ≡ d →
      IsPlace place × Sits g start (token_of x) (place_token (Some place)) p
  sits_by_class x place c d told place_told some one =
      let named = place_told.named (λ z. some (one ∙ z)) in
      let place_known = place_told.others (λ z. some (one ∙ z)) in
      let known = told.others some in
      let same : class x ≡ class (thing_at place) = sym (told.known known) ∙ (one ∙ place_told.known named place_known) in
      let share = (are.one x (thing_at place) known place_known).0 (same, λ z. some (told.known known ∙ z)) in (
        named,
        record {
          reached = are.reached;
          same = λ n t path. let k = share n t path in (k.0, k.1, sym (place_is place t) ∙ k.2);
        },
      )

  -- and where it sits it has one
  pub class_by_sits : (x : Tracked) (place : Place) (c d : ℕ) → Told things class x c → PlaceTold things class place d → IsPlace place →
      Sits g start (token_of x) (place_token (Some place)) p → (c ≢ 0 → c ≡ d → ⊥) → ⊥
  class_by_sits x place c d told place_told named sits h =
      both_known x place told.bare named sits (λ known place_known.
      let one = (are.one x (thing_at place) known place_known).1
      (λ n t path. let k = sits.same n t path in (k.0, k.1, place_is place t ∙ k.2)) in
      h (λ z. one.1 (sym (told.known known) ∙ z)) (told.known known ∙ (one.0 ∙ sym (place_told.known named place_known))))
