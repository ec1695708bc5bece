-- A table of numbers by their classes gets one more thing, and the place of a class is the first one by classes.
use Rattle.std.proofs.Common.{
  ◌≡◌,
  ◌≢◌,
  ℕ,
  ◌+◌,
  ◌-◌,
  ◌*◌,
  ◌<◌,
  ◌≤◌,
  List,
  map,
  length,
  arith,
  refl,
  sym,
  ◌∙◌,
  ap,
  subst,
  inl,
  inr,
  eqb-true,
  eq-eqb,
  lt-ltb,
  lit<,
}
use Rattle.std.specs.Prelude.{ℤ, Contains, Option, Some, None, IsSome, Bool, true, false, cond, nat_eq, nat_lt, slice_get, slice_index, slice_index_or}
use Rattle.std.proofs.lemmas.Bool.{cases_lt}
use Rattle.std.proofs.lemmas.Bool.Decides.{nat_tests}
use Rattle.std.proofs.lemmas.Option.{slice_get_within}
use Rattle.rv64_instr.specs.Arithmetic.{word}
use Rattle.rv64_instr.specs.declared.place.Place.{Place}
use Rattle.rv64_instr.specs.declared.place.Place.TheVariants as spot
use Rattle.mir_func.specs.declared.variable.VarId.{VarId}
use Rattle.sem_mir.specs.PreferredLocation.{IsPlace, IsPreferredTo}
use Rattle.value_proof.specs.sem_value_ids.Pullback.{InSlot, OfVariable, OfNumber}
use Rattle.value_solver.specs.declared.tracked.Tracked.{Tracked}
use Rattle.value_solver.specs.declared.tracked.Tracked.TheVariants.{Register, Slot, Pair, Part, Number}
use Rattle.value_solver.specs.Entry.{thing}
use Rattle.value_proof.specs.Classes.{Classes}
use Rattle.value_proof.specs.PreferredByClass.{HasItsClass, IsFirstByClass}
use Rattle.value_tracker.specs.declared.index.TrackedIndex.{TrackedIndex}
use Rattle.value_tracker.specs.declared.location_tracker.LocationTracker.{LocationTracker}
use Rattle.value_tracker.specs.Things.{Settle}
use Rattle.value_tracker.specs.LocationTracker.{slot_place, Holds}
use Rattle.value_tracker.specs.LowestLocation.{IsFirstBelow, AreFirsts}
use Rattle.value_tracker.specs.Start.{IsConstantOf, AreConstantsBelow, AreConstants, constant_past, ConstantsNow}
use Rattle.value_tracker.specs.ClassLocation.{place_by, constant_or, place_of}
use Rattle.value_tracker.proofs.Starting.{stands, contained, is_number}

module _ (things : List Tracked) (settled : List ℕ) (class : Classes) (settle : Settle things settled class) (i : ℕ) (old new : List (Option ℤ))
    (below : AreConstantsBelow things i class old) where
  earlier : (j : ℕ) → j < i + 1 → (j ≡ i → ⊥) → j < i
  earlier j lt ne = omega (arith, lt, ne)

  -- a thing that is no number
  constants_kept : (x : Tracked) → slice_get things i ≡ Some x → ((n : ℕ) → x ≡ Number n → ⊥) →
      ((k : ℕ) → slice_index_or new k None ≡ slice_index_or old k None) → AreConstantsBelow things (i + 1) class new
  constants_kept x at other same = record {
    each = λ j n lt e. subst IsSome (sym (same (class (OfNumber n)))) (below.each j n (earlier j lt (λ is. other n
        (let both : Some x ≡ Some (Number n) = sym at ∙ (ap (slice_get things) (sym is) ∙ e) in cc))) e);
    only = λ k c e. below.only k c (sym (same k) ∙ e);
  }

  constants_number : (n : ℕ) (c : ℤ) → slice_get things i ≡ Some (Number n) → word c ≡ n → IsPlace (spot.Const c) →
      ((k : ℕ) → slice_index_or new k None ≡ cond (nat_eq k (slice_index settled i)) (Some c) (slice_index_or old k None)) →
      AreConstantsBelow things (i + 1) class new
  constants_number n c at is named step = record {
    each = λ j m lt e. subst IsSome (sym (step (class (OfNumber m)))) (by_class j m lt e (nat_eq (class (OfNumber m)) (slice_index settled i)) refl);
    only = λ k d e. by_index k d (nat_eq k (slice_index settled i)) refl (sym (step k) ∙ e);
  } where
    is_class : slice_index settled i ≡ class (OfNumber n)
    is_class = settle.each i (Number n) at

    by_class : (j m : ℕ) → j < i + 1 → slice_get things j ≡ Some (Number m) → (b : Bool) → nat_eq (class (OfNumber m)) (slice_index settled i) ≡ b →
        IsSome (cond b (Some c) (slice_index_or old (class (OfNumber m)) None))
    by_class j m lt e true h = refl
    by_class j m lt e false h = below.each j m (earlier j lt not_this) e where
      not_this : j ≡ i → ⊥
      not_this same =
          let both : Some (Number m) ≡ Some (Number n) = sym e ∙ (ap (slice_get things) same ∙ at) in
          let one : m ≡ n = cc in
          let on : nat_eq (class (OfNumber m)) (slice_index settled i) ≡ true =
          eq-eqb (class (OfNumber m)) (slice_index settled i) (ap (λ (z : ℕ). class (OfNumber z)) one ∙ sym is_class) in
          cc

    by_index : (k : ℕ) (d : ℤ) (b : Bool) → nat_eq k (slice_index settled i) ≡ b → cond b (Some c) (slice_index_or old k None) ≡ Some d →
        IsPlace (spot.Const d) × ((j : ℕ) × (slice_get things j ≡ Some (Number (word d)))) × (class (OfNumber (word d)) ≡ k)
    by_index k d true h e =
        let same : c ≡ d = cc in
        let number : n ≡ word d = sym is ∙ ap word same in (
          subst (λ (z : ℤ). IsPlace (spot.Const z)) same named,
          (i, at ∙ ap (λ (z : ℕ). Some (Number z)) number),
          ap (λ (z : ℕ). class (OfNumber z)) (sym number) ∙ (sym is_class ∙ sym (eqb-true k (slice_index settled i) h)),
        )
    by_index k d false h e = below.only k d e

  pub constants_more : (x : Tracked) (o : Option ℤ) → slice_get things i ≡ Some x → IsConstantOf x o →
      ((k : ℕ) → slice_index_or new k None ≡ constant_past o (slice_index settled i) k (slice_index_or old k None)) → AreConstantsBelow things (i + 1) class new
  constants_more (Number n) (Some c) at is step = constants_number n c at is.0 is.1 step
  constants_more (Number n) None at is step = absurd (is refl)
  constants_more (Register r) o at is step = constants_kept (Register r) at (λ n e. cc) (λ k. step k
      ∙ ap (λ (z : Option ℤ). constant_past z (slice_index settled i) k (slice_index_or old k None)) is)
  constants_more (Slot n) o at is step = constants_kept (Slot n) at (λ m e. cc) (λ k. step k
      ∙ ap (λ (z : Option ℤ). constant_past z (slice_index settled i) k (slice_index_or old k None)) is)
  constants_more (Pair q) o at is step = constants_kept (Pair q) at (λ n e. cc) (λ k. step k
      ∙ ap (λ (z : Option ℤ). constant_past z (slice_index settled i) k (slice_index_or old k None)) is)
  constants_more (Part v) o at is step = constants_kept (Part v) at (λ n e. cc) (λ k. step k
      ∙ ap (λ (z : Option ℤ). constant_past z (slice_index settled i) k (slice_index_or old k None)) is)

-- ---- a place by its class

pub constants_now : (things : List Tracked) (class : Classes) (constants : List (Option ℤ)) → AreConstants things class constants →
    ConstantsNow things class constants
constants_now things class constants are = record {
  each = λ n c. let s = stands things (OfNumber n) c in
      let at : slice_get things s.index ≡ Some (Number n) = s.at ∙ ap (λ (z : Tracked). Some z) (is_number s.item n s.is) in
      are.each s.index n (slice_get_within things s.index (Number n) at) at;
  only = λ k c e. let o = are.only k c e in (o.0, contained things o.1.0 (Number (word c)) o.1.1, o.2);
}

module _ (variables : List VarId) (things : List Tracked) (index : TrackedIndex) (settled : List ℕ) (h : LocationTracker) (class : Classes)
    (holds : Holds variables (map thing things) index settled h class) (firsts : List (Option ℕ)) (constants : List (Option ℤ))
    (are_firsts : AreFirsts h.places.items firsts) (now : ConstantsNow things class constants) (v : VarId) where
  abbrev own : ℕ
  own = class (OfVariable v)

  no_constant : slice_index_or constants own None ≡ None → (c : ℤ) → HasItsClass (map thing things) class v (spot.Const c) → ⊥
  no_constant none c has =
      let some = now.each (word c) has.known in
      let is : slice_index_or constants (class (OfNumber (word c))) None ≡ None = ap (λ (z : ℕ). slice_index_or constants z None) (sym has.one.0) ∙ none in
      let both : IsSome {T = ℤ} None = subst IsSome is some in
      cc

  -- a place that has the class and stands below an end is the first one or after it
  register_at : (r : ℕ) → HasItsClass (map thing things) class v (spot.Register r) → slice_index h.places.items r ≡ own
  register_at r has = holds.registers r has.known ∙ sym has.one.0

  slot_at : (n : ℕ) → HasItsClass (map thing things) class v (spot.Slot n) → slice_index h.places.items (slot_place n) ≡ own
  slot_at n has = holds.slots n has.known ∙ sym has.one.0

  nowhere : own ≢ 0 → slice_index_or constants own None ≡ None → IsFirstBelow (length h.places.items) h.places.items own None →
      (place : Place) → HasItsClass (map thing things) class v place → ⊥
  nowhere some none first (spot.Register r) has =
      let positive : 0 < r = let k = has.named.1 in omega (arith, k) in
      first r positive (omega (arith, has.known, holds.count)) (register_at r has)
  nowhere some none first (spot.Slot n) has =
      let o = holds.offsets n has.known in
      first (slot_place n) (omega arith) (omega (arith, o.1, holds.count)) (slot_at n has)
  nowhere some none first (spot.Const c) has = no_constant none c has

  at_register : (k : ℕ) → own ≢ 0 → slice_index_or constants own None ≡ None → IsFirstBelow (length h.places.items) h.places.items own (Some k) → k < 32 →
      IsFirstByClass (map thing things) class v (Some (spot.Register k))
  at_register k some none first lt = (
    record {
      named = (
        lt,
        (λ e. let p = first.0 in omega (arith, p, e)),
        (λ e. some (sym first.2 ∙ (ap (slice_index h.places.items) e
            ∙ (holds.registers 2 (lit< tt) ∙ holds.pointer)))),
      );
      known = lt;
      one = (sym first.2 ∙ holds.registers k lt, some);
    },
    before,
  ) where
    before : (other : Place) → IsPreferredTo other (spot.Register k) → HasItsClass (map thing things) class v other → ⊥
    before (spot.Const c) less has = no_constant none c has
    before (spot.Register r) less has = let positive : 0 < r = let k = has.named.1 in omega (arith, k) in first.3 r positive less (register_at r has)
    before (spot.Slot n) less has = absurd less

  at_slot : (k : ℕ) → own ≢ 0 → slice_index_or constants own None ≡ None → IsFirstBelow (length h.places.items) h.places.items own (Some k) → 32 ≤ k →
      IsFirstByClass (map thing things) class v (Some (spot.Slot (8 * (k - 32))))
  at_slot k some none first le = (
    record { named = tt; known = known; one = (sym first.2 ∙ (ap (slice_index h.places.items) (sym place) ∙ holds.slots (8 * (k - 32)) known), some) },
    before,
  ) where
    known : Contains (map thing things) (InSlot (8 * (k - 32)))
    known = holds.slots_known k le (λ none. some (sym first.2 ∙ none))

    place : slot_place (8 * (k - 32)) ≡ k
    place = omega (arith, le)

    before : (other : Place) → IsPreferredTo other (spot.Slot (8 * (k - 32))) → HasItsClass (map thing things) class v other → ⊥
    before (spot.Const c) less has = no_constant none c has
    before (spot.Register r) less has =
        let positive : 0 < r = let k = has.named.1 in omega (arith, k) in
        first.3 r positive (let b = has.known in omega (arith, b, le)) (register_at r has)
    before (spot.Slot n) less has =
        let o = holds.offsets n has.known in
        first.3 (slot_place n) (omega arith) (omega (arith, o.0, less, le)) (slot_at n has)

  at_first : own ≢ 0 → slice_index_or constants own None ≡ None → (o : Option ℕ) → IsFirstBelow (length h.places.items) h.places.items own o →
      IsFirstByClass (map thing things) class v (place_by o)
  at_first some none None first = nowhere some none first
  at_first some none (Some k) first = elim (cases_lt k 32) [
    | inl lt ↦ subst (λ (z : Bool). IsFirstByClass (map thing things) class v (Some (cond z (spot.Register k) (spot.Slot (8 * (k - 32)))))) (sym
        (lt-ltb k 32 lt)) (at_register k some none first lt)
    | inr le ↦ let no : nat_lt k 32 ≡ false = grind (arith, nat_tests, le) in
        subst (λ (z : Bool). IsFirstByClass (map thing things) class v (Some (cond z (spot.Register k) (spot.Slot (8 * (k - 32)))))) (sym no)
        (at_slot k some none first le)
  ]

  at_constant : own ≢ 0 → (o : Option ℤ) → slice_index_or constants own None ≡ o →
      IsFirstByClass (map thing things) class v (constant_or o (place_by (slice_index_or firsts own None)))
  at_constant some (Some c) e =
      let o = now.only own c e in
      (record { named = o.0; known = o.1; one = (sym o.2, some) }, before) where
        before : (other : Place) → IsPreferredTo other (spot.Const c) → HasItsClass (map thing things) class v other → ⊥
        before (spot.Const d) less has = absurd less
        before (spot.Register r) less has = absurd less
        before (spot.Slot n) less has = absurd less
  at_constant some None e = at_first some e (slice_index_or firsts own None) (are_firsts own)

  -- the place that tables have for a part's class is the first one by classes
  pub place_is_first : (d : ℕ) → d ≡ own → IsFirstByClass (map thing things) class v (place_of firsts constants d)
  place_is_first d e = subst (λ (z : ℕ). IsFirstByClass (map thing things) class v (place_of firsts constants z)) (sym e) (by_zero (nat_eq own 0) refl) where
    by_zero : (b : Bool) → nat_eq own 0 ≡ b →
        IsFirstByClass (map thing things) class v (cond b None (constant_or (slice_index_or constants own None) (place_by (slice_index_or firsts own None))))
    by_zero true z = λ place has. has.one.1 (eqb-true own 0 z)
    by_zero false z = at_constant (λ none. let on : nat_eq own 0 ≡ true = eq-eqb own 0 none in cc) (slice_index_or constants own None) refl
