-- Classes past an item are held: of code, of a mark, of a phi.
use Rattle.std.proofs.Common.{
  ◌≡◌,
  ◌≢◌,
  ℕ,
  ◌+◌,
  ◌-◌,
  ◌*◌,
  ◌<◌,
  ◌≤◌,
  List,
  ◌++◌,
  length,
  arith,
  refl,
  sym,
  ◌∙◌,
  ap,
  subst,
  inl,
  inr,
  eqb-true,
  eq-eqb,
  ne_eqb,
  lit<,
}
use Rattle.std.specs.Prelude.{Contains, Option, Some, None, Bool, true, false, cond, ◌&&◌, nat_eq, slice_get, slice_index}
use Rattle.std.specs.HashMap.{get}
use Rattle.std.proofs.lemmas.List.Elements.{Contains-append_cases, Contains-append_right}
use Rattle.std.proofs.lemmas.Option.{slice_get-get_or, slice_get_within, get_or_from_slice_get}
use Rattle.rv64_instr.specs.declared.operand.Operand.{Operand}
use Rattle.rv64_instr.specs.declared.place.Place.{Place}
use Rattle.rv64_instr.specs.declared.place.Place.TheVariants.{Register, Slot, Const}
use Rattle.rv64_instr.specs.Arithmetic.{word}
use Rattle.rv64_instr.specs.Instruction.{Instruction}
use Rattle.rv64_instr.specs.Row.{Row, Fixes, row_of}
use Rattle.rv64_instr.specs.LocationEffects.{is_call}
use Rattle.mir_func.specs.declared.debug_substitution.OperandPair.{OperandPair}
use Rattle.mir_func.specs.declared.variable.VarId.{VarId}
use Rattle.mir_func.specs.declared.variable.MarkValue.{MarkValue}
use Rattle.mir_func.specs.declared.variable.MarkValue.TheVariants.{Nothing, Constant, At, Pair}
use Rattle.mir_func.specs.declared.item.ItemKind.TheVariants.{Code, Phi}
use Rattle.mir_func.specs.Variables.{is_same, overlaps}
use Rattle.mir_substitution.specs.Index.{is_key}
use Rattle.sem_mir.specs.Step.{defined}
use Rattle.value_proof.specs.sem_value_ids.Pullback as path
use Rattle.value_proof.specs.sem_value_ids.Pullback.{
  InRegister,
  InSlot,
  OfPair,
  OfVariable,
  OfNumber,
  Back,
  Was,
  New,
  Nameless,
  put_back,
  back_register,
  back_slot,
  back_row,
  given_back,
  back_code,
  back_value,
  back_pair,
  back_place,
  back_mark,
  back_phi,
  back,
}
use Rattle.value_proof.specs.Classes.{Classes, IsKnown, KnowsRow, KnowsPair, KnowsValue, KnowsPlace, DefinePhysical, class_back, code_pairs, pairs_of}
use Rattle.value_proof.proofs.Pairs.{AddsPairs, Defines, defined_pair, known_more, old_item}
use Rattle.value_proof.proofs.Passing.{Knows, known_past_item}
use Rattle.value_proof.proofs.Known.{StaysBare, pointer, bare_stays}
use Rattle.value_tracker.specs.declared.index.TrackedIndex.{TrackedIndex}
use Rattle.value_tracker.specs.declared.location_tracker.LocationTracker.{LocationTracker}
use Rattle.value_tracker.specs.LocationTracker.{SLOTS_FROM, PLACES, slot_place, class_at, number_class, given_or, pair_class, Holds, places_past, part_past}
use Rattle.value_tracker.specs.LocationTracker.{resolved_class, value_class, place_class, operand_class}
use Rattle.value_tracker.proofs.Rows.{Before, register_past, slot_past, slots_known_past}

key_apart : (k o m p : ℕ) → is_key (k, o) (m, p) ≡ cond (nat_eq k m) (nat_eq o p) false
key_apart k o m p = by_test (nat_eq k m) where
  by_test : (b : Bool) → (b && nat_eq o p) ≡ cond b (nat_eq o p) false
  by_test true = refl
  by_test false = refl

eq_swap : (m n : ℕ) → nat_eq m n ≡ nat_eq n m
eq_swap m n = by_test (nat_eq m n) refl where
  by_test : (b : Bool) → nat_eq m n ≡ b → b ≡ nat_eq n m
  by_test true e = sym (eq-eqb n m (sym (eqb-true m n e)))
  by_test false e = sym (ne_eqb n m (λ h. let on : nat_eq m n ≡ true = eq-eqb m n (sym h) in cc))

-- what holds with pairs holds without them
pub held_fewer : (variables : List VarId) (things known : List path.Tracked) (index : TrackedIndex) (settled : List ℕ) (h : LocationTracker)
    (class : Classes) → AddsPairs things known → Holds variables known index settled h class → Holds variables things index settled h class
held_fewer variables things known index settled h class a holds = record {
  count = holds.count;
  registers = holds.registers;
  slots = λ n c. holds.slots n (a.all (InSlot n) c);
  offsets = λ n c. holds.offsets n (a.all (InSlot n) c);
  slots_known = λ i le some. a.only (InSlot (8 * (i - SLOTS_FROM))) tt (holds.slots_known i le some);
  pairs = λ k o c. holds.pairs k o (a.all (OfPair k o) c);
  parts = holds.parts;
  numbers = λ n c. holds.numbers n (a.all (OfNumber n) c);
  below = λ x k. holds.below x (known_more things known a x k);
  zero = holds.zero;
  pointer = holds.pointer;
}

module _ (variables : List VarId) (known : List path.Tracked) (index : TrackedIndex) (settled : List ℕ) (h : LocationTracker) (class : Classes)
    (holds : Holds variables known index settled h class) where
  abbrev fresh : ℕ → ℕ
  fresh r = h.next + r

  before : Before known class (number_class index settled) (slice_index h.places.items)
  before = record {
    registers = holds.registers;
    slots = holds.slots;
    offsets = holds.offsets;
    slots_known = holds.slots_known;
    numbers = holds.numbers;
    pointer = holds.pointer;
  }

  some_next : 0 < h.next
  some_next = let b = holds.below (InRegister 0) (lit< tt) in omega (arith, b)

  back_below : (b : Back) → Knows known b → class_back class fresh b < h.next + 32
  back_below (Was x) k = let b = holds.below x k in omega (arith, b)
  back_below (New i r) k = omega (arith, k.1)
  back_below Nameless k = let s = some_next in omega (arith, s)

  bare_none : (x : path.Tracked) (b : Back) → class x ≡ 0 → StaysBare x b → class_back class fresh b ≡ 0
  bare_none x b none (inl is) = ap (class_back class fresh) is ∙ none
  bare_none x b none (inr is) = ap (class_back class fresh) is

  zero_row : (row : Row) → class_back class fresh (back_register 0 row 0) ≡ class (InRegister 0)
  zero_row (Fixes rd c) = refl
  zero_row _ = refl

  -- ---- code

  module _ (resolve : OperandPair → Option OperandPair) (i : Instruction) (k : LocationTracker)
      (knows_row : KnowsRow known (row_of i)) (physical : DefinePhysical (is_call (row_of i)) i.operands) (count : length k.places.items ≡ PLACES)
      (places : (p : ℕ) → slice_index k.places.items p ≡ places_past (number_class index settled) h.next (row_of i) (slice_index h.places.items) p)
      (parts : k.parts ≡ h.parts) (next : k.next ≡ h.next + 32) where
    register_is : (r : ℕ) → r < 32 → slice_index k.places.items r ≡ class_back class fresh (back_register 0 (row_of i) r)
    register_is r lt = places r ∙ register_past known class (number_class index settled) h.next (slice_index h.places.items) before (row_of i) r knows_row lt

    slot_is : (n : ℕ) → Contains known (InSlot n) → slice_index k.places.items (slot_place n) ≡ class_back class fresh (back_slot (row_of i) n)
    slot_is n c = places (slot_place n) ∙ slot_past known class (number_class index settled) h.next (slice_index h.places.items) before (row_of i) n knows_row c

    code_below : (number : Option ℕ) (x : path.Tracked) → IsKnown (code_pairs i number ++ known) x → class_back class fresh (back_code 0 i number x) < k.next
    code_below number x kx = subst (λ (z : ℕ). class_back class fresh (back_code 0 i number x) < z) (sym next)
        (back_below (back_code 0 i number x) (known_past_item known resolve (Code i number) x (knows_row, physical) kx))

    code_pointer : (number : Option ℕ) → class_back class fresh (back_code 0 i number (InRegister 2)) ≡ 0
    code_pointer number = bare_none (InRegister 2) (back_code 0 i number (InRegister 2)) holds.pointer
        (bare_stays known resolve (Code i number) (InRegister 2) (knows_row, physical) pointer)

    slots_known_is : (p : ℕ) → SLOTS_FROM ≤ p → slice_index k.places.items p ≢ 0 → Contains known (InSlot (8 * (p - SLOTS_FROM)))
    slots_known_is p le some = slots_known_past known class (number_class index settled) h.next (slice_index h.places.items) before (row_of i) p knows_row le
        (λ none. some (places p ∙ none))

    parts_is : (j : ℕ) (v : VarId) → slice_get variables j ≡ Some v → slice_get k.parts.items j ≡ Some (class (OfVariable v))
    parts_is j v e = ap (λ p. slice_get p.items j) parts ∙ holds.parts j v e

    pub code_holds : k.pairs ≡ h.pairs → Holds variables known index settled k (λ x. class_back class fresh (back_code 0 i None x))
    code_holds pairs = record {
      count = count;
      registers = register_is;
      slots = slot_is;
      offsets = holds.offsets;
      slots_known = slots_known_is;
      pairs = λ m o c. ap (λ q. given_or (get is_key q (m, o)) (class_at settled (get is_key index.pairs (m, o)))) pairs ∙ holds.pairs m o c;
      parts = parts_is;
      numbers = holds.numbers;
      below = code_below None;
      zero = zero_row (row_of i) ∙ holds.zero;
      pointer = code_pointer None;
    }

    abbrev GivesPairs : (n : ℕ) → Type 0
    GivesPairs n = (m o : ℕ) → get is_key k.pairs (m, o) ≡ cond (nat_eq n m)
        (operand_class k.places.items (defined (is_call (row_of i)) (slice_get i.operands o)) (get is_key h.pairs (m, o))) (get is_key h.pairs (m, o))

    abbrev operand_at : (o : ℕ) → Option ℕ
    operand_at o = defined (is_call (row_of i)) (slice_get i.operands o)

    pair_kept : (n m o : ℕ) → Contains known (OfPair m o) → GivesPairs n →
        pair_class index settled k m o ≡ class_back class fresh (back_code 0 i (Some n) (OfPair m o))
    pair_kept n m o c pairs = by_number (nat_eq n m) (eq_swap n m) where
      start : ℕ
      start = class_at settled (get is_key index.pairs (m, o))

      by_operand : (d : Option ℕ) → ((r : ℕ) → d ≡ Some r → r < 32) →
          given_or (operand_class k.places.items d (get is_key h.pairs (m, o))) start ≡ class_back class fresh (given_back 0 (row_of i) d (OfPair m o))
      by_operand None below = holds.pairs m o c
      by_operand (Some rd) below = register_is rd (below rd refl)

      by_number : (b : Bool) → nat_eq n m ≡ nat_eq m n → pair_class index settled k m o ≡ class_back class fresh (back_code 0 i (Some n) (OfPair m o))
      by_number b e =
          let d = operand_at o in
          ap (λ (z : Option ℕ). given_or z start) (pairs m o)
          ∙ (ap (λ (z : Bool). given_or (cond z (operand_class k.places.items d (get is_key h.pairs (m, o))) (get is_key h.pairs (m, o))) start) e
          ∙ at (nat_eq m n)) where
            at : (z : Bool) → given_or (cond z (operand_class k.places.items (operand_at o) (get is_key h.pairs (m, o))) (get is_key h.pairs (m, o))) start
                ≡ class_back class fresh (cond z (given_back 0 (row_of i) (operand_at o) (OfPair m o)) (Was (OfPair m o)))
            at true = by_operand (operand_at o) (physical o)
            at false = holds.pairs m o c

    pair_made : (n m o : ℕ) → Defines (Code i (Some n)) m o → GivesPairs n →
        pair_class index settled k m o ≡ class_back class fresh (back_code 0 i (Some n) (OfPair m o))
    pair_made n m o d pairs =
        let start = class_at settled (get is_key index.pairs (m, o)) in
        let old = get is_key h.pairs (m, o) in
        ap (λ (z : Option ℕ). given_or z start) (pairs m o)
        ∙ (ap (λ (z : Bool). given_or (cond z (operand_class k.places.items (operand_at o) old) old) start) (eq-eqb n m (sym d.0))
        ∙ (ap (λ (z : Option ℕ). given_or (operand_class k.places.items z old) start) d.2
        ∙ (register_is d.1 (physical o d.1 d.2)
        ∙ (sym (ap (λ (z : Option ℕ). class_back class fresh (given_back 0 (row_of i) z (OfPair m o))) d.2)
        ∙ sym (ap (λ (z : Bool). class_back class fresh (cond z (given_back 0 (row_of i) (operand_at o) (OfPair m o)) (Was (OfPair m o)))) (eq-eqb m n d.0))))))

    pair_given : (n m o : ℕ) → Contains (code_pairs i (Some n) ++ known) (OfPair m o) → GivesPairs n →
        pair_class index settled k m o ≡ class_back class fresh (back_code 0 i (Some n) (OfPair m o))
    pair_given n m o c pairs = elim (Contains-append_cases (code_pairs i (Some n)) known (OfPair m o) c) [
      | inl made ↦ pair_made n m o (defined_pair (Code i (Some n)) m o made) pairs
      | inr old ↦ pair_kept n m o old pairs
    ]

    pub numbered_holds : (n : ℕ) → GivesPairs n →
        Holds variables (code_pairs i (Some n) ++ known) index settled k (λ x. class_back class fresh (back_code 0 i (Some n) x))
    numbered_holds n pairs = record {
      count = count;
      registers = register_is;
      slots = λ m c. slot_is m (old_item known (Code i (Some n)) (InSlot m) tt c);
      offsets = λ m c. holds.offsets m (old_item known (Code i (Some n)) (InSlot m) tt c);
      slots_known = λ p le some. Contains-append_right (code_pairs i (Some n)) known (InSlot (8 * (p - SLOTS_FROM))) (slots_known_is p le some);
      pairs = λ m o c. pair_given n m o c pairs;
      parts = parts_is;
      numbers = λ c j. holds.numbers c (old_item known (Code i (Some n)) (OfNumber c) tt j);
      below = code_below (Some n);
      zero = zero_row (row_of i) ∙ holds.zero;
      pointer = code_pointer (Some n);
    }

  -- ---- marks

  if_below : (b : Bool) (x y : Back) → class_back class fresh x < h.next → class_back class fresh y < h.next → class_back class fresh (cond b x y) < h.next
  if_below true x y lx ly = lx
  if_below false x y lx ly = ly

  class_if : (b : Bool) (x y : Back) → class_back class fresh (cond b x y) ≡ cond b (class_back class fresh x) (class_back class fresh y)
  class_if true x y = refl
  class_if false x y = refl

  pair_below : (q : Option OperandPair) → KnowsPair known q → class_back class fresh (back_pair q) < h.next
  pair_below None k = some_next
  pair_below (Some q) k = holds.below (OfPair q.number q.operand) k

  value_below : (resolve : OperandPair → Option OperandPair) (m : MarkValue) → KnowsValue known resolve m →
      class_back class fresh (back_value resolve m) < h.next
  value_below resolve Nothing k = some_next
  value_below resolve (Constant c) k = holds.below (OfNumber (word c)) k
  value_below resolve (At r) k = holds.below (InRegister r) k
  value_below resolve (Pair q) k = pair_below (resolve q) k

  mark_below : (resolve : OperandPair → Option OperandPair) (v : VarId) (m : MarkValue) (x : path.Tracked) → KnowsValue known resolve m → IsKnown known x →
      class_back class fresh (back_mark resolve v m x) < h.next
  mark_below resolve v m (OfVariable w) k kx = if_below (is_same w v) (back_value resolve m) (cond (overlaps w v) Nameless (Was (OfVariable w)))
      (value_below resolve m k) (if_below (overlaps w v) Nameless (Was (OfVariable w)) some_next (holds.below (OfVariable w) kx))
  mark_below resolve v m (InRegister r) k kx = holds.below (InRegister r) kx
  mark_below resolve v m (InSlot n) k kx = holds.below (InSlot n) kx
  mark_below resolve v m (OfPair j o) k kx = holds.below (OfPair j o) kx
  mark_below resolve v m (OfNumber c) k kx = holds.below (OfNumber c) kx

  resolved_is : (q : Option OperandPair) → KnowsPair known q → resolved_class index settled h q ≡ class_back class fresh (back_pair q)
  resolved_is None k = refl
  resolved_is (Some q) k = holds.pairs q.number q.operand k

  value_is : (resolve : OperandPair → Option OperandPair) (m : MarkValue) → KnowsValue known resolve m →
      value_class index settled resolve h m ≡ class_back class fresh (back_value resolve m)
  value_is resolve Nothing k = refl
  value_is resolve (Constant c) k = holds.numbers (word c) k
  value_is resolve (At r) k = holds.registers r k
  value_is resolve (Pair q) k = resolved_is (resolve q) k

  pub mark_holds : (resolve : OperandPair → Option OperandPair) (v : VarId) (m : MarkValue) (parts : LocationTracker) → KnowsValue known resolve m →
      parts.places ≡ h.places → parts.pairs ≡ h.pairs → parts.next ≡ h.next → length parts.parts.items ≡ length variables →
      ((j : ℕ) (w : VarId) → slice_get variables j ≡ Some w →
      slice_index parts.parts.items j ≡ part_past v (value_class index settled resolve h m) w (slice_index h.parts.items j)) →
      Holds variables known index settled parts (λ x. class_back class fresh (back_mark resolve v m x))
  mark_holds resolve v m k knows places pairs next count parts = record {
    count = ap (λ p. length p.items) places ∙ holds.count;
    registers = λ r lt. ap (λ p. slice_index p.items r) places ∙ holds.registers r lt;
    slots = λ n c. ap (λ p. slice_index p.items (slot_place n)) places ∙ holds.slots n c;
    offsets = holds.offsets;
    slots_known = λ i le some. holds.slots_known i le (λ none. some (ap (λ p. slice_index p.items i) places ∙ none));
    pairs = λ j o c. ap (λ q. given_or (get is_key q (j, o)) (class_at settled (get is_key index.pairs (j, o)))) pairs ∙ holds.pairs j o c;
    parts = part_is;
    numbers = holds.numbers;
    below = λ x kx. subst (λ (z : ℕ). class_back class fresh (back_mark resolve v m x) < z) (sym next) (mark_below resolve v m x knows kx);
    zero = holds.zero;
    pointer = holds.pointer;
  } where
    part_is : (j : ℕ) (w : VarId) → slice_get variables j ≡ Some w →
        slice_get k.parts.items j ≡ Some (class_back class fresh (back_mark resolve v m (OfVariable w)))
    part_is j w e =
        let within : j < length k.parts.items = omega (arith, slice_get_within variables j w e, count) in
        let old : slice_index h.parts.items j ≡ class (OfVariable w) = get_or_from_slice_get h.parts.items j (class (OfVariable w)) 0 (holds.parts j w e) in
        let new : slice_index k.parts.items j ≡ class_back class fresh (back_mark resolve v m (OfVariable w)) =
        parts j w e
        ∙ (ap (part_past v (value_class index settled resolve h m) w) old
        ∙ (ap (λ (z : ℕ). part_past v z w (class (OfVariable w))) (value_is resolve m knows)
        ∙ (ap (λ (z : ℕ). cond (is_same w v) (class_back class fresh (back_value resolve m)) z) (sym (class_if (overlaps w v) Nameless (Was
        (OfVariable w))))
        ∙ sym (class_if (is_same w v) (back_value resolve m) (cond (overlaps w v) Nameless (Was (OfVariable w))))))) in
        slice_get-get_or k.parts.items j 0 within ∙ ap (λ (z : ℕ). Some z) new

  -- ---- phis

  place_below : (p : Option Place) → KnowsPlace known p → class_back class fresh (back_place p) < h.next
  place_below None k = some_next
  place_below (Some (Register r)) k = holds.below (InRegister r) k
  place_below (Some (Slot n)) k = holds.below (InSlot n) k
  place_below (Some (Const c)) k = holds.below (OfNumber (word c)) k

  place_is : (p : Option Place) → KnowsPlace known p → place_class index settled h p ≡ class_back class fresh (back_place p)
  place_is None k = refl
  place_is (Some (Register r)) k = holds.registers r k
  place_is (Some (Slot n)) k = holds.slots n k
  place_is (Some (Const c)) k = holds.numbers (word c) k

  -- a phi's pair comes from its place
  phi_made : (p : Option Place) (j m o : ℕ) → Defines (Phi p j) m o → back_phi p j (OfPair m o) ≡ back_place p
  phi_made p j m o d =
      ap (λ (z : Bool). cond z (cond (nat_eq o 0) (back_place p) (Was (OfPair m o))) (Was (OfPair m o))) (eq-eqb m j d.0)
      ∙ ap (λ (z : Bool). cond z (back_place p) (Was (OfPair m o))) (eq-eqb o 0 d.1)

  phi_below : (p : Option Place) (j : ℕ) (x : path.Tracked) → KnowsPlace known p → IsKnown (pairs_of (Phi p j) ++ known) x →
      class_back class fresh (back_phi p j x) < h.next
  phi_below p j (OfPair m o) k kx = elim (Contains-append_cases (pairs_of (Phi p j)) known (OfPair m o) kx) [
    | inl made ↦ subst (λ (z : Back). class_back class fresh z < h.next) (sym (phi_made p j m o (defined_pair (Phi p j) m o made))) (place_below p k)
    | inr old ↦ if_below (nat_eq m j) (cond (nat_eq o 0) (back_place p) (Was (OfPair m o))) (Was (OfPair m o))
        (if_below (nat_eq o 0) (back_place p) (Was (OfPair m o)) (place_below p k) (holds.below (OfPair m o) old)) (holds.below (OfPair m o) old)
  ]
  phi_below p j (InRegister r) k kx = holds.below (InRegister r) kx
  phi_below p j (InSlot n) k kx = holds.below (InSlot n) (old_item known (Phi p j) (InSlot n) tt kx)
  phi_below p j (OfVariable v) k kx = holds.below (OfVariable v) (old_item known (Phi p j) (OfVariable v) tt kx)
  phi_below p j (OfNumber c) k kx = holds.below (OfNumber c) (old_item known (Phi p j) (OfNumber c) tt kx)

  pub phi_holds : (p : Option Place) (n : ℕ) (k : LocationTracker) → KnowsPlace known p → k.places ≡ h.places → k.parts ≡ h.parts → k.next ≡ h.next →
      ((q : ℕ × ℕ) → get is_key k.pairs q ≡ cond (is_key (n, 0) q) (Some (place_class index settled h p)) (get is_key h.pairs q)) →
      Holds variables (pairs_of (Phi p n) ++ known) index settled k (λ x. class_back class fresh (back_phi p n x))
  phi_holds p n k knows places parts next pairs = record {
    count = ap (λ z. length z.items) places ∙ holds.count;
    registers = λ r lt. ap (λ z. slice_index z.items r) places ∙ holds.registers r lt;
    slots = λ s c. ap (λ z. slice_index z.items (slot_place s)) places ∙ holds.slots s (old_item known (Phi p n) (InSlot s) tt c);
    offsets = λ s c. holds.offsets s (old_item known (Phi p n) (InSlot s) tt c);
    slots_known = λ i le some. Contains-append_right (pairs_of (Phi p n)) known (InSlot (8 * (i - SLOTS_FROM)))
        (holds.slots_known i le (λ none. some (ap (λ z. slice_index z.items i) places ∙ none)));
    pairs = λ m o c. elim (Contains-append_cases (pairs_of (Phi p n)) known (OfPair m o) c) [
      | inl made ↦ pair_made m o (defined_pair (Phi p n) m o made)
      | inr old ↦ pair_is m o old
    ];
    parts = λ j v e. ap (λ z. slice_get z.items j) parts ∙ holds.parts j v e;
    numbers = λ c j. holds.numbers c (old_item known (Phi p n) (OfNumber c) tt j);
    below = λ x kx. subst (λ (z : ℕ). class_back class fresh (back_phi p n x) < z) (sym next) (phi_below p n x knows kx);
    zero = holds.zero;
    pointer = holds.pointer;
  } where
    by_tests : (m o : ℕ) → Contains known (OfPair m o) → (a b : Bool) →
        given_or (cond (cond a b false) (Some (place_class index settled h p)) (get is_key h.pairs (m, o))) (class_at settled (get is_key index.pairs (m, o)))
        ≡ class_back class fresh (cond a (cond b (back_place p) (Was (OfPair m o))) (Was (OfPair m o)))
    by_tests m o c true true = place_is p knows
    by_tests m o c true false = holds.pairs m o c
    by_tests m o c false b = holds.pairs m o c

    tests_are : (m o : ℕ) → is_key (n, 0) (m, o) ≡ cond (nat_eq m n) (nat_eq o 0) false
    tests_are m o = key_apart n 0 m o ∙ (ap (λ (z : Bool). cond z (nat_eq 0 o) false) (eq_swap n m)
        ∙ ap (λ (z : Bool). cond (nat_eq m n) z false) (eq_swap 0 o))

    by_key : (m o : ℕ) (b : Bool) → is_key (n, 0) (m, o) ≡ b → pair_class index settled k m o ≡
        given_or (cond b (Some (place_class index settled h p)) (get is_key h.pairs (m, o))) (class_at settled (get is_key index.pairs (m, o)))
    by_key m o b e =
        ap (λ (z : Option ℕ). given_or z (class_at settled (get is_key index.pairs (m, o)))) (pairs (m, o))
        ∙ ap (λ (z : Bool). given_or (cond z (Some (place_class index settled h p)) (get is_key h.pairs (m, o))) (class_at settled (get is_key index.pairs
        (m, o)))) e

    pair_is : (m o : ℕ) → Contains known (OfPair m o) → pair_class index settled k m o ≡ class_back class fresh (back_phi p n (OfPair m o))
    pair_is m o c = by_key m o (cond (nat_eq m n) (nat_eq o 0) false) (tests_are m o) ∙ by_tests m o c (nat_eq m n) (nat_eq o 0)

    pair_made : (m o : ℕ) → Defines (Phi p n) m o → pair_class index settled k m o ≡ class_back class fresh (back_phi p n (OfPair m o))
    pair_made m o d =
        by_key m o true (tests_are m o ∙ (ap (λ (z : Bool). cond z (nat_eq o 0) false) (eq-eqb m n d.0) ∙ eq-eqb o 0 d.1))
        ∙ (place_is p knows ∙ sym (ap (class_back class fresh) (phi_made p n m o d)))

  -- code with a number, in its two steps: the places, and then the pairs
  pub numbered_step : (resolve : OperandPair → Option OperandPair) (i : Instruction) (mid k : LocationTracker) (n : ℕ) (call : Bool) (operands : List Operand) →
      KnowsRow known (row_of i) → DefinePhysical (is_call (row_of i)) i.operands → length mid.places.items ≡ PLACES →
      ((p : ℕ) → slice_index mid.places.items p ≡ places_past (number_class index settled) h.next (row_of i) (slice_index h.places.items) p) →
      mid.pairs ≡ h.pairs → mid.parts ≡ h.parts → mid.next ≡ h.next → k.places ≡ mid.places → k.parts ≡ mid.parts → k.next ≡ mid.next + 32 →
      call ≡ is_call (row_of i) → operands ≡ i.operands →
      ((m o : ℕ) → get is_key k.pairs (m, o) ≡ cond (nat_eq n m)
      (operand_class mid.places.items (defined call (slice_get operands o)) (get is_key mid.pairs (m, o))) (get is_key mid.pairs (m, o))) →
      Holds variables (code_pairs i (Some n) ++ known) index settled k (λ x. class_back class fresh (back_code 0 i (Some n) x))
  numbered_step resolve i mid k n call operands knows_row physical count places pairs parts next kplaces kparts knext calls same given =
      numbered_holds resolve i k knows_row physical (ap (λ z. length z.items) kplaces ∙ count) (λ p. ap (λ z. slice_index z.items p) kplaces ∙ places p)
      (kparts ∙ parts) (knext ∙ ap (λ (z : ℕ). z + 32) next) n
      (λ m o. given m o
      ∙ (ap (λ q. cond (nat_eq n m) (operand_class mid.places.items (defined call (slice_get operands o)) (get is_key q (m, o))) (get is_key q (m, o))) pairs
      ∙ (ap (λ z. cond (nat_eq n m) (operand_class z.items (defined call (slice_get operands o)) (get is_key h.pairs (m, o))) (get is_key h.pairs (m, o)))
      (sym kplaces)
      ∙ (ap (λ (z : Bool). cond (nat_eq n m) (operand_class k.places.items (defined z (slice_get operands o)) (get is_key h.pairs (m, o)))
      (get is_key h.pairs (m, o))) calls
      ∙ ap (λ (z : List Operand). cond (nat_eq n m) (operand_class k.places.items (defined (is_call (row_of i)) (slice_get z o)) (get is_key h.pairs (m, o)))
      (get is_key h.pairs (m, o))) same))))
