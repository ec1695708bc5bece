-- Classes at the start of a block, where each thing has one of its own: its place in the list. They stand for the tokens before
-- all items. And what classes tell past all items the changes tell that are made by them.
use Rattle.std.proofs.Common.{◌≡◌, ℕ, zero, suc, ◌+◌, ◌*◌, ◌<◌, List, [], ◌∷◌, map, length, refl, sym, ap, ◌∙◌, subst, arith, inl, inr}
use Rattle.std.specs.Prelude.{Contains, IfOk, Result, Ok, Err, Option, Some, None, Bool, true, false, cond, nat_eq, slice_get}
use Rattle.std.proofs.lemmas.Bool.Decides.{eqb_tells}
use Rattle.std.proofs.lemmas.Option.{slice_get_within}
use Rattle.std.specs.declared.alloc.AllocError.{AllocError}
use Rattle.mir_func.specs.Resolve.{resolve}
use Rattle.mir_func.specs.declared.debug_substitution.OperandPair.{OperandPair}
use Rattle.mir_func.specs.declared.item.Item.{Item}
use Rattle.mir_func.specs.declared.variable.VarId.{VarId}
use Rattle.sem_mir.specs.ValueId.{Tokens}
use Rattle.sem_value_ids.specs.Pullback as path
use Rattle.sem_value_ids.specs.Pullback.{InRegister, InSlot, OfPair, OfVariable, OfNumber, token_of, after_items}
use Rattle.value_proof.specs.Classes.{Classes, IsKnown, known_past}
use Rattle.value_proof.proofs.Pairs.{AddsPairs, adds_none, adds_past, known_more}
use Rattle.value_solver.specs.declared.tracked.Tracked.{Tracked}
use Rattle.value_solver.specs.declared.tracked.Tracked.TheVariants.{Register, Slot, Pair, Part, Number}
use Rattle.value_solver.specs.Entry.{thing}
use Rattle.value_tracker.specs.Things.{AreThings, Settle}
use Rattle.value_tracker.specs.declared.location_tracker.LocationTracker.{LocationTracker}
use Rattle.value_tracker.specs.LocationTracker.{Holds}
use Rattle.value_tracker.proofs.Items.{held_fewer}
use Rattle.value_live_ins.specs.declared.changes.Tracking.{Tracking}
use Rattle.value_solver.specs.declared.flow.Source.TheVariants.{Was}
use Rattle.value_solver.specs.declared.flow.Change.{Change}
use Rattle.value_solver.specs.Joining.{source_from, source_at, AreWithin}
use Rattle.value_solver.specs.Flows.{thing_token, token_at, told}
use Rattle.value_solver.proofs.Exits.{beyond}
use Rattle.value_live_ins.specs.steps.Flowing.{Tells}
use Rattle.value_live_ins.specs.Keys.{key_of, is_key}
use Rattle.value_live_ins.specs.Walking.{AreTracked, AreOwn, decoded, ClassesTell, Walked, AreChanges}
use Rattle.value_live_ins.proofs.Keys.{key_itself, key_tells}
use Rattle.value_live_ins.proofs.Blocks.{past}
use Rattle.value_live_ins.proofs.Gathering.{is_in, thing_in}
use Rattle.value_live_ins.proofs.Walking.{decoded_own}

-- ---- places in the list

abbrev one_on : ℕ → ℕ
one_on zero = zero
one_on (suc n) = suc (suc n)

-- a thing's place from 1 on, or 0
abbrev place_of : List Tracked → Tracked → ℕ
place_of [] x = 0
place_of (y ∷ ys) x = cond (is_key (key_of y) (key_of x)) 1 (one_on (place_of ys x))

place_is : (xs : List Tracked) (i : ℕ) (x : Tracked) → ((j k : ℕ) (y : Tracked) → slice_get xs j ≡ Some y → slice_get xs k ≡ Some y → j ≡ k) →
    slice_get xs i ≡ Some x → place_of xs x ≡ suc i
place_is [] i x once e = absurd cc
place_is (y ∷ ys) zero x once e =
    let is : y ≡ x = cc in
    ap (λ (z : Bool). cond z 1 (one_on (place_of ys x))) (ap (λ (z : Tracked). is_key (key_of z) (key_of x)) is ∙ key_itself (key_of x))
place_is (y ∷ ys) (suc i) x once e =
    by_test (is_key (key_of y) (key_of x)) refl (place_is ys i x (λ j k z a b. let s : suc j ≡ suc k = once (suc j) (suc k) z a b in omega (arith, s)) e) where
      by_test : (b : Bool) → is_key (key_of y) (key_of x) ≡ b → place_of ys x ≡ suc i →
          cond (is_key (key_of y) (key_of x)) 1 (one_on (place_of ys x)) ≡ suc (suc i)
      by_test true h rest =
          let no : zero ≡ suc i = once zero (suc i) x (ap (λ (z : Tracked). Some z) (key_tells y x h)) e in
          absurd (omega (arith, no))
      by_test false h rest = ap (λ (z : Bool). cond z 1 (one_on (place_of ys x))) h ∙ ap one_on rest

abbrev as_thing : path.Tracked → Tracked
as_thing (InRegister r) = Register r
as_thing (InSlot n) = Slot n
as_thing (OfPair k o) = Pair (record { number = k; operand = o })
as_thing (OfVariable v) = Part v
as_thing (OfNumber c) = Number c

abbrev pub own_classes : List Tracked → Classes
own_classes xs (InRegister r) = cond (nat_eq r 2) 0 (cond (nat_eq r 0) (place_of xs (Number 0)) (place_of xs (Register r)))
own_classes xs (InSlot n) = place_of xs (Slot n)
own_classes xs (OfPair k o) = place_of xs (as_thing (OfPair k o))
own_classes xs (OfVariable v) = place_of xs (Part v)
own_classes xs (OfNumber c) = place_of xs (Number c)

-- what is among the things as the laws name them stands in the list
pub thing_at : (xs : List Tracked) (x : path.Tracked) → Contains (map thing xs) x → (i : ℕ) × (y : Tracked) × (slice_get xs i ≡ Some y) × (thing y ≡ x)
thing_at [] x (k, lt, e) = absurd (let no : k < 0 = lt in omega (arith, no))
thing_at (y ∷ ys) x (zero, lt, e) = (0, y, refl, e)
thing_at (y ∷ ys) x (suc k, lt, e) =
    let less : suc k < suc (length (map thing ys)) = lt in
    let (i, z, at, is) = thing_at ys x (k, omega (arith, less), e) in
    (suc i, z, at, is)

module _ (variables : List VarId) (things : List Tracked) (are : AreThings variables things) (tracked : AreTracked things) where
  register_own : (r : ℕ) → (r ≡ 0 → ⊥) → (r ≡ 2 → ⊥) → own_classes things (InRegister r) ≡ place_of things (Register r)
  register_own r none two = elim (eqb_tells r 2) [
    | inl h ↦ absurd (two h.1)
    | inr h ↦ ap (λ (z : Bool). cond z 0 (cond (nat_eq r 0) (place_of things (Number 0)) (place_of things (Register r)))) h.0 ∙ by_zero
  ] where
    by_zero : cond (nat_eq r 0) (place_of things (Number 0)) (place_of things (Register r)) ≡ place_of things (Register r)
    by_zero = elim (eqb_tells r 0) [
      | inl h ↦ absurd (none h.1)
      | inr h ↦ ap (λ (z : Bool). cond z (place_of things (Number 0)) (place_of things (Register r))) h.0
    ]

  own_is : (i : ℕ) (x : Tracked) → slice_get things i ≡ Some x → own_classes things (thing x) ≡ suc i
  own_is i (Register r) e = let k = tracked.registers i r e in register_own r k.1 k.2 ∙ place_is things i (Register r) tracked.once e
  own_is i (Slot n) e = place_is things i (Slot n) tracked.once e
  own_is i (Pair q) e = place_is things i (Pair q) tracked.once e
  own_is i (Part v) e = place_is things i (Part v) tracked.once e
  own_is i (Number c) e = place_is things i (Number c) tracked.once e

  pub own_settles : (settled : List ℕ) → AreOwn (length things) settled → Settle things settled (own_classes things)
  own_settles settled own = record {
    each = λ i x e. own.each i (slice_get_within things i x e) ∙ sym (own_is i x e);
    for_all = own.count;
    zero = refl;
    pointer = refl;
  }

  -- a known thing's class is that of a thing of the list that has its token, or it has none
  data Stands (x : path.Tracked) : Type 0 where
    like : (i : ℕ) (y : Tracked) → slice_get things i ≡ Some y → ((t : Tokens) → token_of x t ≡ token_of (thing y) t) → own_classes things x ≡ suc i → Stands x
    bare : ((t : Tokens) → token_of (InRegister 2) t ≡ None → token_of x t ≡ None) → own_classes things x ≡ 0 → Stands x

  in_list : (x : path.Tracked) → Contains (map thing things) x → Stands x
  in_list x h =
      let (i, y, at, is) = thing_at things x h in
      like i y at (λ t. ap (λ (z : path.Tracked). token_of z t) (sym is)) (ap (own_classes things) (sym is) ∙ own_is i y at)

  register_stands : (r : ℕ) → r < 32 → Stands (InRegister r)
  register_stands r lt = elim (eqb_tells r 2) [
    | inl two ↦ subst (λ (z : ℕ). Stands (InRegister z)) (sym two.1) (bare (λ t h. h) refl)
    | inr other ↦ elim (eqb_tells r 0) [
      | inl none ↦ subst (λ (z : ℕ). Stands (InRegister z)) (sym none.1)
          (like are.zero.0 (Number 0) are.zero.1 (λ t. refl) (place_is things are.zero.0 (Number 0) tracked.once are.zero.1))
      | inr some ↦
          let s = are.registers r lt some.1 other.1 in
          like s.0 (Register r) s.1 (λ t. refl) (own_is s.0 (Register r) s.1)
    ]
  ]

  known_stands : (x : path.Tracked) → IsKnown (map thing things) x → Stands x
  known_stands (InRegister r) k = register_stands r k
  known_stands (InSlot n) k = in_list (InSlot n) k
  known_stands (OfPair j o) k = in_list (OfPair j o) k
  known_stands (OfVariable v) k = in_list (OfVariable v) k
  known_stands (OfNumber c) k = in_list (OfNumber c) k

  pub own_tell : (resolve : OperandPair → Option OperandPair) → ClassesTell resolve things [] (own_classes things)
  own_tell resolve = record {
    each = λ n t none x k. by_stand n t none x (known_stands x k);
    below = λ x k. by_place x (known_stands x k);
  } where
    by_stand : (n : ℕ) (t : Tokens) → token_of (InRegister 2) t ≡ None → (x : path.Tracked) → Stands x →
        token_of x t ≡ told things n t (decoded (length things) (own_classes things x))
    by_stand n t none x (like i y at same class) =
        same t ∙ ap (λ (o : Option Tracked). thing_token o t) (sym at)
        ∙ ap (told things n t) (sym (ap (decoded (length things)) class ∙ decoded_own (length things) i (slice_get_within things i y at)))
    by_stand n t none x (bare token class) = token t none ∙ ap (λ (c : ℕ). told things n t (decoded (length things) c)) (sym class)

    by_place : (x : path.Tracked) → Stands x → own_classes things x < length things + 1 + 32 * 0
    by_place x (like i y at same class) = let lt = slice_get_within things i y at in omega (arith, class, lt)
    by_place x (bare token class) = omega (arith, class)

-- ---- changes that are made by classes

pub changes_tell : (resolve : OperandPair → Option OperandPair) (things : List Tracked) (items : List Item) (class : Classes) (changes : List Change) →
    AreTracked things → ClassesTell resolve things items class → AreChanges things class changes → AreWithin (length things) changes →
    Tells resolve things items changes
changes_tell resolve things items class changes tracked tell are within = record { each = each } where
  thing_is : (i : ℕ) (x : Tracked) → slice_get things i ≡ Some x → Contains (map thing things) (thing x)
  thing_is i x e = thing_in things x (is_in things i x e)

  known : (i : ℕ) (x : Tracked) → slice_get things i ≡ Some x → IsKnown (map thing things) (thing x)
  known i (Register r) e = (tracked.registers i r e).0
  known i (Slot n) e = thing_is i (Slot n) e
  known i (Pair q) e = thing_is i (Pair q) e
  known i (Part v) e = thing_is i (Part v) e
  known i (Number c) e = thing_is i (Number c) e

  past_items : AddsPairs (map thing things) (known_past (map thing things) items)
  past_items = adds_past (map thing things) (map thing things) items (adds_none (map thing things))

  by_thing : (n : ℕ) (t : Tokens) → token_of (InRegister 2) t ≡ None → (i : ℕ) (o : Option Tracked) → slice_get things i ≡ o →
      thing_token (slice_get things i) (after_items resolve n items t) ≡ told things n t (source_from (Was i) changes i)
  by_thing n t none i (Some x) e =
      ap (λ (o : Option Tracked). thing_token o (after_items resolve n items t)) e
      ∙ tell.each n t none (thing x) (known_more (map thing things) (known_past (map thing things) items) past_items (thing x) (known i x e))
      ∙ ap (told things n t) (sym (are.each i x e))
  by_thing n t none i None e =
      ap (λ (o : Option Tracked). thing_token o (after_items resolve n items t)) e
      ∙ sym (ap (told things n t) (beyond (length things) (Was i) changes i within (past things i e)) ∙ ap (λ (o : Option Tracked). thing_token o t) e)

  each : (n : ℕ) (t : Tokens) → token_of (InRegister 2) t ≡ None → (x : ℕ) →
      token_at things x (after_items resolve n items t) ≡ told things n t (source_at changes x)
  each n t none zero = refl
  each n t none (suc i) = by_thing n t none i (slice_get things i) refl

pub changes_are : (t : Tracking) (items : List Item) (h : LocationTracker) (result : Result (List Change) AllocError) → AreTracked t.things.now →
    Walked t items h →
    IfOk result (λ changes. (class : Classes) → Holds t.variables.now (map thing t.things.now) t.index.now t.settled.now h class →
    AreChanges t.things.now class changes) →
    IfOk result (λ changes. AreWithin (length t.things.now) changes) → IfOk result (λ changes. Tells (resolve t.subs.now) t.things.now items changes)
changes_are t items h (Ok changes) tracked w are within =
    let things = map thing t.things.now in
    let held = held_fewer t.variables.now things (known_past things items) t.index.now t.settled.now h w.class
    (adds_past things things items (adds_none things)) w.holds in
    changes_tell (resolve t.subs.now) t.things.now items w.class changes tracked w.tells (are w.class held) within
changes_are t items h (Err e) tracked w are within = tt
