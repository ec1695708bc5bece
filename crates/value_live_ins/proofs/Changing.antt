-- The changes that classes tell, one thing after the other.
use Rattle.std.proofs.Common.{◌≡◌, ℕ, zero, suc, ◌+◌, ◌-◌, ◌%◌, ◌<◌, ◌≤◌, List, [], ◌∷◌, ◌++◌, map, length, refl, sym, ap, ◌∙◌, subst}
use Rattle.std.proofs.Common.{arith, inl, inr, ltb-true, mod-lt}
use Rattle.std.specs.Prelude.{Option, Some, None, IsSome, Bool, true, false, cond, nat_eq, nat_lt, slice_get, slice_index}
use Rattle.std.specs.HashMap.{get}
use Rattle.std.proofs.lemmas.Bool.{ne_eqb, eq-eqb}
use Rattle.std.proofs.lemmas.Option.{slice_get_within, get_or_from_slice_get}
use Rattle.std.proofs.lemmas.Bool.Decides.{eqb_tells}
use Rattle.mir_func.specs.declared.debug_substitution.OperandPair.{OperandPair}
use Rattle.mir_func.specs.declared.variable.VarId.{VarId}
use Rattle.mir_substitution.specs.Index.{is_key}
use Rattle.sem_value_ids.specs.Pullback.{InRegister, InSlot, OfVariable, OfNumber}
use Rattle.value_proof.specs.Classes.{Classes}
use Rattle.value_solver.specs.declared.tracked.Tracked.{Tracked}
use Rattle.value_solver.specs.declared.tracked.Tracked.TheVariants.{Register, Slot, Pair, Part, Number}
use Rattle.value_solver.specs.Entry.{thing}
use Rattle.value_tracker.specs.declared.index.TrackedIndex.{TrackedIndex}
use Rattle.value_tracker.specs.declared.location_tracker.LocationTracker.{LocationTracker}
use Rattle.value_tracker.specs.Things.{AreThings, Indexes}
use Rattle.value_tracker.specs.LocationTracker.{Holds, slot_place, class_at, given_or}
use Rattle.value_solver.specs.declared.flow.Source.{Source}
use Rattle.value_solver.specs.declared.flow.Source.TheVariants.{Was}
use Rattle.value_solver.specs.declared.flow.Change.{Change}
use Rattle.value_solver.specs.Joining.{source_from, SourceWithin, AreWithin}
use Rattle.value_solver.proofs.Exits.{source_push}
use Rattle.value_live_ins.specs.Walking.{AreTracked, decoded, new_of, AreChanges}
use Rattle.value_live_ins.proofs.Gathering.{is_in, thing_in}
use Rattle.value_live_ins.proofs.Walking.{decoded_own}

pub record ChangedBelow (things : List Tracked) (class : Classes) (n : ℕ) (changes : List Change) : Type 0 where
  pub each : (i : ℕ) (x : Tracked) → i < n → slice_get things i ≡ Some x → source_from (Was i) changes i ≡ decoded (length things) (class (thing x))

-- no change is of things from an index on
pub record KeptFrom (n : ℕ) (changes : List Change) : Type 0 where
  pub each : (i : ℕ) → n ≤ i → source_from (Was i) changes i ≡ Was i

pub changed_none : (things : List Tracked) (class : Classes) → ChangedBelow things class 0 []
changed_none things class = record { each = λ i x lt e. absurd (omega (arith, lt)) }

pub kept_none : (n : ℕ) → KeptFrom n []
kept_none n = record { each = λ i le. refl }

-- a thing that has its own class
pub changed_same : (things : List Tracked) (class : Classes) (n : ℕ) (changes : List Change) → n < length things →
    ((x : Tracked) → slice_get things n ≡ Some x → class (thing x) ≡ n + 1) →
    ChangedBelow things class n changes → KeptFrom n changes → ChangedBelow things class (n + 1) changes
changed_same things class n changes lt own h kept = record { each = λ i x less e. by_place i x less e } where
  by_place : (i : ℕ) (x : Tracked) → i < n + 1 → slice_get things i ≡ Some x → source_from (Was i) changes i ≡ decoded (length things) (class (thing x))
  by_place i x less e = elim (eqb_tells i n) [
    | inl k ↦
        let at : slice_get things n ≡ Some x = ap (slice_get things) (sym k.1) ∙ e in
        let next : n + 1 ≡ suc i = let s = k.1 in omega (arith, s) in
        kept.each i (let s = k.1 in omega (arith, s))
        ∙ sym (ap (decoded (length things)) (own x at ∙ next) ∙ decoded_own (length things) i (let s = k.1 in omega (arith, s, lt)))
    | inr k ↦ h.each i x (let ne = k.1 in omega (arith, less, ne)) e
  ]

pub kept_more : (n : ℕ) (changes : List Change) → KeptFrom n changes → KeptFrom (n + 1) changes
kept_more n changes h = record { each = λ i le. h.each i (omega (arith, le)) }

-- a thing that hasn't
pub changed_push : (things : List Tracked) (class : Classes) (n : ℕ) (changes new : List Change) (c : Change) → c.thing ≡ n →
    new ≡ changes ++ c ∷ [] →
    ((x : Tracked) → slice_get things n ≡ Some x → c.source ≡ decoded (length things) (class (thing x))) →
    ChangedBelow things class n changes → ChangedBelow things class (n + 1) new
changed_push things class n changes new c of is source h = record { each = λ i x less e. by_place i x less e } where
  pushed : (i : ℕ) → source_from (Was i) new i ≡ cond (nat_eq c.thing i) c.source (source_from (Was i) changes i)
  pushed i = ap (λ (z : List Change). source_from (Was i) z i) is ∙ source_push (Was i) changes c i

  by_place : (i : ℕ) (x : Tracked) → i < n + 1 → slice_get things i ≡ Some x → source_from (Was i) new i ≡ decoded (length things) (class (thing x))
  by_place i x less e = elim (eqb_tells i n) [
    | inl k ↦
        pushed i
        ∙ ap (λ (z : Bool). cond z c.source (source_from (Was i) changes i)) (eq-eqb c.thing i (of ∙ sym k.1))
        ∙ source x (ap (slice_get things) (sym k.1) ∙ e)
    | inr k ↦
        pushed i
        ∙ ap (λ (z : Bool). cond z c.source (source_from (Was i) changes i)) (ne_eqb c.thing i (λ s. k.1 (sym s ∙ of)))
        ∙ h.each i x (let ne = k.1 in omega (arith, less, ne)) e
  ]

pub kept_push : (n : ℕ) (changes new : List Change) (c : Change) → c.thing ≡ n → new ≡ changes ++ c ∷ [] → KeptFrom n changes → KeptFrom (n + 1) new
kept_push n changes new c of is h = record {
  each = λ i le.
      ap (λ (z : List Change). source_from (Was i) z i) is ∙ source_push (Was i) changes c i
      ∙ ap (λ (z : Bool). cond z c.source (source_from (Was i) changes i)) (ne_eqb c.thing i (λ s. omega (arith, s, of, le)))
      ∙ h.each i (omega (arith, le));
}

pub within_push : (n : ℕ) (changes new : List Change) (c : Change) → new ≡ changes ++ c ∷ [] → c.thing < n → SourceWithin n c.source → AreWithin n changes →
    AreWithin n new
within_push n changes new c is lt source h = subst (AreWithin n) (sym is) (append changes h) where
  append : (cs : List Change) → AreWithin n cs → AreWithin n (cs ++ c ∷ [])
  append [] k = (lt, source, tt)
  append (d ∷ cs) (a, b, k) = (a, b, append cs k)

pub decoded_within : (n class : ℕ) → SourceWithin n (decoded n class)
decoded_within n zero = tt
decoded_within n (suc c) = by_test (nat_lt c n) refl where
  by_test : (z : Bool) → nat_lt c n ≡ z → SourceWithin n (cond z (Was c) (new_of (c - n)))
  by_test true e = ltb-true c n e
  by_test false e = let small : (c - n) % 32 < 32 = mod-lt (c - n) (omega arith) in omega (arith, small)

pub all_changed : (things : List Tracked) (class : Classes) (n : ℕ) (changes : List Change) → length things ≤ n → ChangedBelow things class n changes →
    AreChanges things class changes
all_changed things class n changes le h = record {
  each = λ i x e. h.each i x (let lt = slice_get_within things i x e in omega (arith, lt, le)) e;
}

-- ---- the classes that are held

-- an entity that is listed once is found at its index
module _ (things : List Tracked) (index : TrackedIndex) (are : Indexes things index) (tracked : AreTracked things) (j : ℕ) where
  number_at : (c : ℕ) → slice_get things j ≡ Some (Number c) → get nat_eq index.numbers c ≡ Some j
  number_at c at = by_found (get nat_eq index.numbers c) refl where
    by_found : (o : Option ℕ) → get nat_eq index.numbers c ≡ o → get nat_eq index.numbers c ≡ Some j
    by_found None e = absurd (
        let no : false ≡ true = subst IsSome e (are.each_number c j (slice_get_within things j (Number c) at) at) in
        cc)
    by_found (Some i) e = e ∙ ap (λ (n : ℕ). Some n) (tracked.once i j (Number c) (are.numbers c i e).1 at)

  pair_at : (q : OperandPair) → slice_get things j ≡ Some (Pair q) → get is_key index.pairs (q.number, q.operand) ≡ Some j
  pair_at q at = by_found (get is_key index.pairs (q.number, q.operand)) refl where
    by_found : (o : Option ℕ) → get is_key index.pairs (q.number, q.operand) ≡ o → get is_key index.pairs (q.number, q.operand) ≡ Some j
    by_found None e = absurd (
        let no : false ≡ true = subst IsSome e (are.each_pair q.number q.operand j (slice_get_within things j (Pair q) at) at) in
        cc)
    by_found (Some i) e = e ∙ ap (λ (n : ℕ). Some n) (tracked.once i j (Pair q) (are.pairs q.number q.operand i e).1 at)

module _ (variables : List VarId) (things : List Tracked) (index : TrackedIndex) (settled : List ℕ) (h : LocationTracker) (class : Classes)
    (holds : Holds variables (map thing things) index settled h class) (j : ℕ) where
  pub register_class : (r : ℕ) → AreTracked things → slice_get things j ≡ Some (Register r) → slice_index h.places.items r ≡ class (InRegister r)
  register_class r are at = holds.registers r (are.registers j r at).0

  pub slot_class : (n : ℕ) → slice_get things j ≡ Some (Slot n) → slice_index h.places.items (slot_place n) ≡ class (InSlot n)
  slot_class n at = holds.slots n (thing_in things (Slot n) (is_in things j (Slot n) at))

  pub pair_class_is : (q : OperandPair) → AreTracked things → Indexes things index → slice_get things j ≡ Some (Pair q) →
      given_or (get is_key h.pairs (q.number, q.operand)) (slice_index settled j) ≡ class (thing (Pair q))
  pair_class_is q tracked are at =
      ap (λ (o : Option ℕ). given_or (get is_key h.pairs (q.number, q.operand)) (class_at settled o)) (sym (pair_at things index are tracked j q at))
      ∙ holds.pairs q.number q.operand (thing_in things (Pair q) (is_in things j (Pair q) at))

  pub part_class_is : (v : VarId) → AreThings variables things → slice_get things j ≡ Some (Part v) → slice_index h.parts.items j ≡ class (OfVariable v)
  part_class_is v are at = get_or_from_slice_get h.parts.items j (class (OfVariable v)) 0 (holds.parts j v (are.parts j v at))

  pub number_class_is : (c : ℕ) → AreTracked things → Indexes things index → slice_get things j ≡ Some (Number c) →
      slice_index settled j ≡ class (OfNumber c)
  number_class_is c tracked are at =
      ap (class_at settled) (sym (number_at things index are tracked j c at))
      ∙ holds.numbers c (thing_in things (Number c) (is_in things j (Number c) at))

-- a part that is tracked has a class
pub part_within : (variables : List VarId) (things : List Tracked) (j n : ℕ) (x : Tracked) (v : VarId) → AreThings variables things →
    slice_get things j ≡ Some x → x ≡ Part v → n ≡ length variables → j < n
part_within variables things j n x v are at is count =
    let lt = slice_get_within variables j v (are.parts j v (at ∙ ap (λ (z : Tracked). Some z) is)) in
    omega (arith, lt, count)

-- the class of the thing at an index
pub own_at : (things : List Tracked) (class : Classes) (n c : ℕ) (y : Tracked) → slice_get things n ≡ Some y → c ≡ class (thing y) → c ≡ n + 1 → (x : Tracked) →
    slice_get things n ≡ Some x → class (thing x) ≡ n + 1
own_at things class n c y at is own x e =
    let both : Some y ≡ Some x = sym at ∙ e in
    let same : y ≡ x = cc in
    ap (λ (z : Tracked). class (thing z)) (sym same) ∙ sym is ∙ own

pub source_at_place : (things : List Tracked) (class : Classes) (n c : ℕ) (s : Source) (y : Tracked) → slice_get things n ≡ Some y → c ≡ class (thing y) →
    s ≡ decoded (length things) c → (x : Tracked) → slice_get things n ≡ Some x → s ≡ decoded (length things) (class (thing x))
source_at_place things class n c s y at is source x e =
    let both : Some y ≡ Some x = sym at ∙ e in
    let same : y ≡ x = cc in
    source ∙ ap (decoded (length things)) (is ∙ ap (λ (z : Tracked). class (thing z)) same)
