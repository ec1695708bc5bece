-- Classes at the start of a block are held: each thing's class is placed where the thing stands.
use Rattle.std.proofs.Common.{◌≡◌, ◌≢◌, ℕ, ◌+◌, ◌-◌, ◌*◌, ◌<◌, ◌≤◌, List, map, length, arith, refl, sym, ◌∙◌, ap, subst, inl, inr, eqb-true, eq-eqb, lt-ltb}
use Rattle.std.specs.Prelude.{Contains, Option, Some, None, IsSome, Bool, true, false, cond, nat_eq, nat_lt, slice_get, slice_index}
use Rattle.std.specs.Option.{option_map}
use Rattle.std.specs.HashMap.{get}
use Rattle.std.proofs.lemmas.Bool.{and_parts, and_from}
use Rattle.std.proofs.lemmas.Bool.Decides.{nat_tests, eqb_tells}
use Rattle.std.proofs.lemmas.Option.{slice_get-get_or, slice_get_within, get_or_from_slice_get, slice_get-map}
use Rattle.mir_func.specs.declared.variable.VarId.{VarId}
use Rattle.mir_substitution.specs.Index.{is_key}
use Rattle.value_proof.specs.sem_value_ids.Pullback as path
use Rattle.value_proof.specs.sem_value_ids.Pullback.{InRegister, InSlot, OfPair, OfVariable, OfNumber}
use Rattle.value_solver.specs.declared.tracked.Tracked.{Tracked}
use Rattle.value_solver.specs.declared.tracked.Tracked.TheVariants.{Register, Slot, Pair, Part, Number}
use Rattle.value_solver.specs.Entry.{thing}
use Rattle.value_proof.specs.Classes.{Classes, IsKnown}
use Rattle.value_tracker.specs.declared.index.TrackedIndex.{TrackedIndex}
use Rattle.value_tracker.specs.declared.location_tracker.LocationTracker.{LocationTracker}
use Rattle.value_tracker.specs.Things.{AreThings, Indexes, IsOffset, Settle}
use Rattle.value_tracker.specs.LocationTracker.{PLACES, slot_place, class_at, number_class, given_or, Holds}
use Rattle.value_tracker.specs.Start.{stands_at, PlacedBelow}

-- ---- things of a list

pub record Stands (things : List Tracked) (y : path.Tracked) : Type 0 where
  pub index : ℕ
  pub item : Tracked
  pub at : slice_get things index ≡ Some item
  pub is : thing item ≡ y

mapped : (o : Option Tracked) (y : path.Tracked) → option_map thing o ≡ Some y → (x : Tracked) × (o ≡ Some x) × (thing x ≡ y)
mapped None y e = cc
mapped (Some x) y e = (x, refl, cc)

pub stands : (things : List Tracked) (y : path.Tracked) → Contains (map thing things) y → Stands things y
stands things y c =
    let at : slice_get (map thing things) c.0 ≡ Some y = slice_get-get_or (map thing things) c.0 y c.1 ∙ ap (λ (z : path.Tracked). Some z) c.2 in
    let m = mapped (slice_get things c.0) y (sym (slice_get-map thing things c.0) ∙ at) in
    record { index = c.0; item = m.0; at = m.1; is = m.2 }

pub contained : (things : List Tracked) (j : ℕ) (x : Tracked) → slice_get things j ≡ Some x → Contains (map thing things) (thing x)
contained things j x e =
    let within : j < length things = slice_get_within things j x e in
    let at : slice_get (map thing things) j ≡ Some (thing x) = slice_get-map thing things j ∙ ap (option_map thing) e in
    (j, slice_get_within (map thing things) j (thing x) at, get_or_from_slice_get (map thing things) j (thing x) (thing x) at)

pub is_slot : (x : Tracked) (n : ℕ) → thing x ≡ InSlot n → x ≡ Slot n
is_slot (Register r) n e = cc
is_slot (Slot m) n e = let is : m ≡ n = cc in ap Slot is
is_slot (Pair q) n e = cc
is_slot (Part v) n e = cc
is_slot (Number c) n e = cc

pub is_number : (x : Tracked) (n : ℕ) → thing x ≡ OfNumber n → x ≡ Number n
is_number (Register r) n e = cc
is_number (Slot m) n e = cc
is_number (Pair q) n e = cc
is_number (Part v) n e = cc
is_number (Number c) n e = let is : c ≡ n = cc in ap Number is

pub is_part : (x : Tracked) (w : VarId) → thing x ≡ OfVariable w → x ≡ Part w
is_part (Register r) w e = cc
is_part (Slot m) w e = cc
is_part (Pair q) w e = cc
is_part (Part v) w e = let is : v ≡ w = cc in ap Part is
is_part (Number c) w e = cc

pub is_pair : (x : Tracked) (k o : ℕ) → thing x ≡ OfPair k o → x ≡ Pair (record { number = k; operand = o })
is_pair (Register r) k o e = cc
is_pair (Slot m) k o e = cc
is_pair (Pair q) k o e = let number : q.number ≡ k = cc in let operand : q.operand ≡ o = cc in λ i. Pair (record { number = number i; operand = operand i })
is_pair (Part v) k o e = cc
is_pair (Number c) k o e = cc

-- ---- a thing at its place

stands_register : (x : Tracked) (p : ℕ) → p < 32 → stands_at x p ≡ true → x ≡ Register p
stands_register (Register r) p lt e = let is : p ≡ r = eqb-true p r (and_parts (nat_eq p r) (nat_lt p 32) e).0 in ap Register (sym is)
stands_register (Slot n) p lt e = let is : p ≡ slot_place n = eqb-true p (slot_place n) (and_parts (nat_eq p (slot_place n)) (nat_lt p 286) e).0 in absurd
    (omega (arith, is, lt))
stands_register (Pair q) p lt e = cc
stands_register (Part v) p lt e = cc
stands_register (Number c) p lt e = cc

stands_slot : (x : Tracked) (p : ℕ) → 32 ≤ p → stands_at x p ≡ true → (n : ℕ) × (x ≡ Slot n) × (p ≡ slot_place n)
stands_slot (Register r) p le e =
    let off : nat_lt p 32 ≡ false = grind (arith, nat_tests, le) in
    let on = (and_parts (nat_eq p r) (nat_lt p 32) e).1 in cc
stands_slot (Slot n) p le e = (n, refl, eqb-true p (slot_place n) (and_parts (nat_eq p (slot_place n)) (nat_lt p 286) e).0)
stands_slot (Pair q) p le e = cc
stands_slot (Part v) p le e = cc
stands_slot (Number c) p le e = cc

module _ (things : List Tracked) (settled : List ℕ) (i : ℕ) (x : Tracked) (at : slice_get things i ≡ Some x)
    (slots : (j n : ℕ) → slice_get things j ≡ Some (Slot n) → IsOffset n) (places new : List ℕ)
    (step : (p : ℕ) → slice_index new p ≡ cond (stands_at x p) (slice_index settled i) (slice_index places p))
    (below : PlacedBelow things settled i places) where
  on : (p : ℕ) → stands_at x p ≡ true → slice_index new p ≡ slice_index settled i
  on p e = step p ∙ ap (λ (z : Bool). cond z (slice_index settled i) (slice_index places p)) e

  off : (p : ℕ) → stands_at x p ≡ false → slice_index new p ≡ slice_index places p
  off p e = step p ∙ ap (λ (z : Bool). cond z (slice_index settled i) (slice_index places p)) e

  earlier : (j : ℕ) → j < i + 1 → (j ≡ i → ⊥) → j < i
  earlier j lt ne = omega (arith, lt, ne)

  register_more : (class : Classes) → Settle things settled class → (j r : ℕ) → j < i + 1 → slice_get things j ≡ Some (Register r) → r < 32 →
      slice_index new r ≡ class (InRegister r)
  register_more class settle j r lt e r32 = by_test (stands_at x r) refl where
    by_test : (b : Bool) → stands_at x r ≡ b → slice_index new r ≡ class (InRegister r)
    by_test true h = on r h ∙ (settle.each i x at ∙ ap (λ (z : Tracked). class (thing z)) (stands_register x r r32 h))
    by_test false h = off r h ∙ below.registers class settle j r (earlier j lt not_this) e r32 where
      not_this : j ≡ i → ⊥
      not_this is =
          let same : Some (Register r) ≡ Some x = sym e ∙ (ap (slice_get things) is ∙ at) in
          let this : x ≡ Register r = cc in
          let yes : stands_at (Register r) r ≡ true = and_from (nat_eq r r) (nat_lt r 32) (eq-eqb r r refl) (lt-ltb r 32 r32) in
          let both : true ≡ false = sym yes ∙ (ap (λ (z : Tracked). stands_at z r) (sym this) ∙ h) in
          cc

  slot_more : (class : Classes) → Settle things settled class → (j n : ℕ) → j < i + 1 → slice_get things j ≡ Some (Slot n) → slot_place n < 286 →
      slice_index new (slot_place n) ≡ class (InSlot n)
  slot_more class settle j n lt e within = by_test (stands_at x (slot_place n)) refl where
    same_slot : (m : ℕ) → x ≡ Slot m → slot_place n ≡ slot_place m → m ≡ n
    same_slot m this is =
        let a = slots j n e in
        let b = slots i m (at ∙ ap (λ (z : Tracked). Some z) this) in
        omega (arith, a.0, b.0, is)

    by_test : (b : Bool) → stands_at x (slot_place n) ≡ b → slice_index new (slot_place n) ≡ class (InSlot n)
    by_test true h =
        let s = stands_slot x (slot_place n) (omega arith) h in
        on (slot_place n) h ∙ (settle.each i x at ∙ (ap (λ (z : Tracked). class (thing z)) s.1 ∙ ap (λ (z : ℕ). class (InSlot z)) (same_slot s.0 s.1 s.2)))
    by_test false h = off (slot_place n) h ∙ below.slots class settle j n (earlier j lt not_this) e within where
      not_this : j ≡ i → ⊥
      not_this is =
          let same : Some (Slot n) ≡ Some x = sym e ∙ (ap (slice_get things) is ∙ at) in
          let this : x ≡ Slot n = cc in
          let yes : stands_at (Slot n) (slot_place n) ≡ true =
          and_from (nat_eq (slot_place n) (slot_place n)) (nat_lt (slot_place n) 286) (eq-eqb (slot_place n) (slot_place n) refl) (lt-ltb
          (slot_place n) 286 within) in
          let both : true ≡ false = sym yes ∙ (ap (λ (z : Tracked). stands_at z (slot_place n)) (sym this) ∙ h) in
          cc

  pub placed_more : PlacedBelow things settled (i + 1) new
  placed_more = record {
    registers = register_more;
    slots = slot_more;
    others = λ p le some. by_test p le some (stands_at x p) refl;
  } where
    by_test : (p : ℕ) → 32 ≤ p → slice_index new p ≢ 0 → (b : Bool) → stands_at x p ≡ b →
        (n : ℕ) × (j : ℕ) × (slice_get things j ≡ Some (Slot n)) × (p ≡ slot_place n)
    by_test p le some true h = let s = stands_slot x p le h in (s.0, i, at ∙ ap (λ (z : Tracked). Some z) s.1, s.2)
    by_test p le some false h = below.others p le (λ none. some (off p h ∙ none))

pub placed_none : (things : List Tracked) (settled places : List ℕ) → ((p : ℕ) → slice_index places p ≡ 0) → PlacedBelow things settled 0 places
placed_none things settled places empty = record {
  registers = λ class settle j r lt e r32. absurd (omega (arith, lt));
  slots = λ class settle j n lt e within. absurd (omega (arith, lt));
  others = λ p le some. absurd (some (empty p));
}

-- ---- what is held

module _ (variables : List VarId) (things : List Tracked) (index : TrackedIndex) (settled : List ℕ) (are : AreThings variables things)
    (indexes : Indexes things index)
    (class : Classes) (settle : Settle things settled class) where
  settled_is : (y : path.Tracked) → (s : Stands things y) → slice_index settled s.index ≡ class y
  settled_is y s = settle.each s.index s.item s.at ∙ ap class s.is

  number_at : (c : ℕ) (o : Option ℕ) → get nat_eq index.numbers c ≡ o → IsSome o → class_at settled o ≡ class (OfNumber c)
  number_at c (Some i) e some = settle.each i (Number c) (indexes.numbers c i e).1
  number_at c None e some = cc

  pub number_is : (c : ℕ) → Contains (map thing things) (OfNumber c) → number_class index settled c ≡ class (OfNumber c)
  number_is c h =
      let s = stands things (OfNumber c) h in
      let at : slice_get things s.index ≡ Some (Number c) = s.at ∙ ap (λ (z : Tracked). Some z) (is_number s.item c s.is) in
      number_at c (get nat_eq index.numbers c) refl (indexes.each_number c s.index (slice_get_within things s.index (Number c) at) at)

  pair_at : (k o : ℕ) (x : Option ℕ) → get is_key index.pairs (k, o) ≡ x → IsSome x → class_at settled x ≡ class (OfPair k o)
  pair_at k o (Some i) e some = settle.each i (Pair (record { number = k; operand = o })) (indexes.pairs k o i e).1
  pair_at k o None e some = cc

  pair_is : (k o : ℕ) → Contains (map thing things) (OfPair k o) → class_at settled (get is_key index.pairs (k, o)) ≡ class (OfPair k o)
  pair_is k o h =
      let s = stands things (OfPair k o) h in
      let at : slice_get things s.index ≡ Some (Pair (record { number = k; operand = o })) = s.at ∙ ap (λ (z : Tracked). Some z) (is_pair s.item k o s.is) in
      pair_at k o (get is_key index.pairs (k, o)) refl (indexes.each_pair k o s.index (slice_get_within things s.index (Pair
      (record { number = k; operand = o })) at) at)

  module _ (places : List ℕ) (placed : PlacedBelow things settled (length things) places) (h : LocationTracker) (count : length h.places.items ≡ PLACES)
      (fixed : (p : ℕ) → slice_index h.places.items p ≡ cond (nat_eq p 2) 0 (cond (nat_eq p 0) (number_class index settled 0) (slice_index places p)))
      (pairs : (q : ℕ × ℕ) → get is_key h.pairs q ≡ None) (parts : (j : ℕ) → j < length variables → slice_get h.parts.items j ≡ Some (slice_index settled j))
      (next : (i : ℕ) → slice_index settled i < h.next) where
    zero_known : Contains (map thing things) (OfNumber 0)
    zero_known = contained things are.zero.0 (Number 0) are.zero.1

    register_is : (r : ℕ) → r < 32 → slice_index h.places.items r ≡ class (InRegister r)
    register_is r lt = elim (eqb_tells r 2) [
      | inl two ↦ fixed r ∙ (ap (λ (z : Bool). cond z 0 (cond (nat_eq r 0) (number_class index settled 0) (slice_index places r))) two.0
          ∙ sym (ap (λ (z : ℕ). class (InRegister z)) two.1 ∙ settle.pointer))
      | inr other ↦ fixed r ∙ (ap (λ (z : Bool). cond z 0 (cond (nat_eq r 0) (number_class index settled 0) (slice_index places r))) other.0 ∙ not_two other.1)
    ] where
      not_two : (r ≡ 2 → ⊥) → cond (nat_eq r 0) (number_class index settled 0) (slice_index places r) ≡ class (InRegister r)
      not_two apart = elim (eqb_tells r 0) [
        | inl none ↦ ap (λ (z : Bool). cond z (number_class index settled 0) (slice_index places r)) none.0
            ∙ (number_is 0 zero_known ∙ (sym settle.zero ∙ ap (λ (z : ℕ). class (InRegister z)) (sym none.1)))
        | inr some ↦ ap (λ (z : Bool). cond z (number_class index settled 0) (slice_index places r)) some.0
            ∙ (let s = are.registers r lt some.1 apart in placed.registers class settle s.0 r (slice_get_within things s.0 (Register r) s.1) s.1 lt)
      ]

    above : (p : ℕ) → 32 ≤ p → slice_index h.places.items p ≡ slice_index places p
    above p le =
        let two : nat_eq p 2 ≡ false = grind (arith, nat_tests, le) in
        let none : nat_eq p 0 ≡ false = grind (arith, nat_tests, le) in
        fixed p ∙ (ap (λ (z : Bool). cond z 0 (cond (nat_eq p 0) (number_class index settled 0) (slice_index places p))) two
        ∙ ap (λ (z : Bool). cond z (number_class index settled 0) (slice_index places p)) none)

    offset : (n : ℕ) → Contains (map thing things) (InSlot n) → IsOffset n
    offset n c = let s = stands things (InSlot n) c in are.slots s.index n (s.at ∙ ap (λ (z : Tracked). Some z) (is_slot s.item n s.is))

    slot_is : (n : ℕ) → Contains (map thing things) (InSlot n) → slice_index h.places.items (slot_place n) ≡ class (InSlot n)
    slot_is n c =
        let s = stands things (InSlot n) c in
        let at : slice_get things s.index ≡ Some (Slot n) = s.at ∙ ap (λ (z : Tracked). Some z) (is_slot s.item n s.is) in
        let o = offset n c in
        above (slot_place n) (omega arith) ∙ placed.slots class settle s.index n (slice_get_within things s.index (Slot n) at) at (omega (arith, o.1))

    slot_known : (p : ℕ) → 32 ≤ p → slice_index h.places.items p ≢ 0 → Contains (map thing things) (InSlot (8 * (p - 32)))
    slot_known p le some =
        let o = placed.others p le (λ none. some (above p le ∙ none)) in
        let off = are.slots o.1 o.0 o.2 in
        let same : 8 * (p - 32) ≡ o.0 = omega (arith, off.0, o.3) in
        subst (λ (z : ℕ). Contains (map thing things) (InSlot z)) (sym same) (contained things o.1 (Slot o.0) o.2)

    stands_below : (y : path.Tracked) → Contains (map thing things) y → class y < h.next
    stands_below y c = let s = stands things y c in subst (λ (z : ℕ). z < h.next) (settled_is y s) (next s.index)

    register_below : (r : ℕ) → r < 32 → class (InRegister r) < h.next
    register_below r lt = elim (eqb_tells r 2) [
      | inl two ↦ subst (λ (z : ℕ). z < h.next) (sym (ap (λ (z : ℕ). class (InRegister z)) two.1 ∙ settle.pointer)) (let n = next 0 in omega (arith, n))
      | inr other ↦ elim (eqb_tells r 0) [
        | inl none ↦ subst (λ (z : ℕ). z < h.next) (sym (ap (λ (z : ℕ). class (InRegister z)) none.1 ∙ settle.zero)) (stands_below (OfNumber 0) zero_known)
        | inr some ↦ let s = are.registers r lt some.1 other.1 in stands_below (InRegister r) (contained things s.0 (Register r) s.1)
      ]
    ]

    below : (x : path.Tracked) → IsKnown (map thing things) x → class x < h.next
    below (InRegister r) k = register_below r k
    below (InSlot n) k = stands_below (InSlot n) k
    below (OfPair k o) c = stands_below (OfPair k o) c
    below (OfVariable v) k = stands_below (OfVariable v) k
    below (OfNumber c) k = stands_below (OfNumber c) k

    pub start_holds : Holds variables (map thing things) index settled h class
    start_holds = record {
      count = count;
      registers = register_is;
      slots = slot_is;
      offsets = offset;
      slots_known = slot_known;
      pairs = λ k o c. ap (λ (z : Option ℕ). given_or z (class_at settled (get is_key index.pairs (k, o)))) (pairs (k, o)) ∙ pair_is k o c;
      parts = λ j v e. parts j (slice_get_within variables j v e) ∙ ap (λ (z : ℕ). Some z) (settle.each j (Part v) (are.variables_first j v e));
      numbers = number_is;
      below = below;
      zero = settle.zero;
      pointer = settle.pointer;
    }
