-- Places past code: registers and slots have the classes by what stood before the code. By the row.
use Rattle.std.proofs.Common.{
  ◌≡◌,
  ◌≢◌,
  ℕ,
  zero,
  suc,
  ◌+◌,
  ◌-◌,
  ◌*◌,
  ◌<◌,
  ◌≤◌,
  List,
  arith,
  refl,
  sym,
  ◌∙◌,
  ap,
  subst,
  inl,
  inr,
  eqb-true,
  eq-eqb,
  ne_eqb,
  lt-ltb,
  ◌%◌,
}
use Rattle.std.specs.Prelude.{Contains, Bool, true, false, cond, ◌&&◌, ◌||◌, nat_eq, nat_le, nat_lt}
use Rattle.std.proofs.lemmas.Bool.{lt-leb, le-leb}
use Rattle.std.specs.List.{list_any}
use Rattle.std.proofs.lemmas.Bool.Decides.{nat_tests, eqb_tells}
use Rattle.rv64_instr.specs.Instruction.{Instruction}
use Rattle.rv64_instr.specs.Row.{Row, Fixes, Moves, Sets, Addresses, Loads, LoadsSlot, StoresSlot, Calls, row_of}
use Rattle.rv64_instr.specs.Decoded.{Shows}
use Rattle.rv64_instr.specs.declared.decoded.Callee.{Callee}
use Rattle.rv64_instr.specs.declared.decoded.Decoded.TheVariants as decoded
use Rattle.rv64_instr.specs.LocationEffects.{is_outgoing}
use Rattle.rv64_instr.proofs.Passed.{passed_by}
use Rattle.rv64_instr.specs.DefsAndUses.{caller_saved}
use Rattle.value_proof.specs.sem_value_ids.Pullback as path
use Rattle.value_proof.specs.sem_value_ids.Pullback.{
  InRegister,
  InSlot,
  OfPair,
  OfVariable,
  OfNumber,
  Back,
  Was,
  New,
  Nameless,
  put_back,
  back_register,
  slot_stored,
  back_slot,
}
use Rattle.value_proof.specs.Classes.{Classes, KnowsRow, class_back}
use Rattle.value_tracker.specs.Things.{IsOffset}
use Rattle.value_tracker.specs.LocationTracker.{SLOTS_FROM, PLACES, slot_place, put, is_slot_at, places_past}

-- ---- a register that is put

pub put_other : (rd c : ℕ) (places : ℕ → ℕ) (r : ℕ) → r < 32 → (r ≡ rd → ⊥) → put rd c places r ≡ places r
put_other rd c places r lt ne = grind (arith, nat_tests)

pub put_none : (c : ℕ) (places : ℕ → ℕ) (r : ℕ) → r < 32 → put 0 c places r ≡ places r
put_none c places r lt = refl

pub put_pointer : (c : ℕ) (places : ℕ → ℕ) (r : ℕ) → r < 32 → put 2 c places r ≡ places r
put_pointer c places r lt = grind (arith, nat_tests)

pub put_here : (rd c : ℕ) (places : ℕ → ℕ) → rd < 32 → (rd ≡ 0 → ⊥) → (rd ≡ 2 → ⊥) → put rd c places rd ≡ c
put_here rd c places lt some apart = grind (arith, nat_tests)

pub put_above : (rd c : ℕ) (places : ℕ → ℕ) (i : ℕ) → 32 ≤ i → put rd c places i ≡ cond (nat_eq rd 2) 0 (places i)
put_above rd c places i le = grind (arith, nat_tests)

cond_class : (class : Classes) (fresh : ℕ → ℕ) (b : Bool) (x y : Back) →
    class_back class fresh (cond b x y) ≡ cond b (class_back class fresh x) (class_back class fresh y)
cond_class class fresh true x y = refl
cond_class class fresh false x y = refl

saved_below : (i : ℕ) → 32 ≤ i → list_any (λ q. nat_eq i q) caller_saved ≡ false
saved_below i le = grind (arith, nat_tests)

-- no register is a slot
no_slot : (ns : List ℕ) (r : ℕ) → r < 32 → is_slot_at ns r ≡ false
no_slot ns r lt = ap (λ (b : Bool). b && list_any (nat_eq (8 * (r - 32))) ns) (lt-leb 32 r lt)

-- the place of a doubleword is that of its slot
at_slot : (ns : List ℕ) (n : ℕ) → n % 8 ≡ 0 → is_slot_at ns (slot_place n) ≡ list_any (nat_eq n) ns
at_slot ns n e =
    let same : 8 * (slot_place n - 32) ≡ n = omega (arith, e) in
    ap (λ (b : Bool). b && list_any (nat_eq (8 * (slot_place n - 32))) ns) (le-leb 32 (slot_place n) (omega arith))
    ∙ ap (λ (k : ℕ). list_any (nat_eq k) ns) same

zero_either : (b : Bool) (x : ℕ) → x ≡ 0 → cond b 0 x ≡ 0
zero_either true x e = refl
zero_either false x e = e

eqb_one : (n : ℕ) → nat_eq n 1 ≡ true → n ≡ 1
eqb_one n e = eqb-true n 1 e

not_one : (n : ℕ) → nat_eq n 1 ≡ false → n ≡ 1 → ⊥
not_one n e h = let on : nat_eq n 1 ≡ true = eq-eqb n 1 h in cc

or_false : (b : Bool) → (b || false) ≡ b
or_false true = refl
or_false false = refl

-- past a call: its slots are cleared, and its registers are new
pub call_past : (i : Instruction) (callee : Callee) → Shows (decoded.Calls callee) (row_of i) → (number : ℕ → ℕ) (next : ℕ) (old mid new : ℕ → ℕ) →
    ((j : ℕ) → mid j ≡ cond (nat_le SLOTS_FROM j && list_any (is_outgoing (8 * (j - SLOTS_FROM))) i.operands) 0 (old j)) →
    ((j : ℕ) → new j ≡ cond (list_any (λ q. nat_eq j q) caller_saved) (next + j) (mid j)) →
    (j : ℕ) → new j ≡ places_past number next (row_of i) old j
call_past i callee shows number next old mid new one two j =
    two j
    ∙ ap (λ (z : ℕ). cond (list_any (λ q. nat_eq j q) caller_saved) (next + j) z)
    (one j ∙ ap (λ (b : Bool). cond (nat_le SLOTS_FROM j && b) 0 (old j)) (passed_by i shows.0 shows.1 (8 * (j - SLOTS_FROM))))
    ∙ sym (ap (λ (row : Row). places_past number next row old j) shows.1)

-- what stands before the code: the classes of registers, slots and numbers
pub record Before (things : List path.Tracked) (class : Classes) (number : ℕ → ℕ) (places : ℕ → ℕ) : Type 0 where
  pub registers : (r : ℕ) → r < 32 → places r ≡ class (InRegister r)
  pub slots : (n : ℕ) → Contains things (InSlot n) → places (slot_place n) ≡ class (InSlot n)
  pub offsets : (n : ℕ) → Contains things (InSlot n) → IsOffset n
  pub slots_known : (i : ℕ) → SLOTS_FROM ≤ i → places i ≢ 0 → Contains things (InSlot (8 * (i - SLOTS_FROM)))
  pub numbers : (c : ℕ) → Contains things (OfNumber c) → number c ≡ class (OfNumber c)
  pub pointer : class (InRegister 2) ≡ 0

module _ (things : List path.Tracked) (class : Classes) (number : ℕ → ℕ) (next : ℕ) (places : ℕ → ℕ) (is : Before things class number places) where
  abbrev of : Back → ℕ
  of b = class_back class (λ r. next + r) b

  put_is : (rd c : ℕ) (b : Back) (r : ℕ) → r < 32 → (r ≡ rd → c ≡ of b) → put rd c places r ≡ of (put_back rd b r)
  put_is rd c b zero lt e = by_register rd where
    by_register : (rd : ℕ) → put rd c places 0 ≡ class (InRegister 0)
    by_register zero = is.registers 0 lt
    by_register (suc rd) = put_other (suc rd) c places 0 lt (λ h. cc) ∙ is.registers 0 lt
  put_is zero c b (suc r) lt e = put_none c places (suc r) lt ∙ is.registers (suc r) lt
  put_is (suc rd) c b (suc r) lt e = by_test (nat_eq (suc r) (suc rd)) refl where
    at_pointer : (t : Bool) → nat_eq rd 1 ≡ t → suc r ≡ suc rd → put (suc rd) c places (suc r) ≡ of (cond t Nameless b)
    at_pointer true p same =
        let two : suc rd ≡ 2 = let one = eqb_one rd p in omega (arith, one) in
        subst (λ (z : ℕ). put z c places (suc r) ≡ 0) (sym two)
        (put_pointer c places (suc r) lt ∙ (is.registers (suc r) lt ∙ (ap (λ (z : ℕ). class (InRegister z)) (same ∙ two) ∙ is.pointer)))
    at_pointer false p same =
        subst (λ (z : ℕ). put (suc rd) c places z ≡ of b) (sym same)
        (put_here (suc rd) c places (subst (λ (z : ℕ). z < 32) same lt) (λ h. cc) (λ h. not_one rd p (omega (arith, h))) ∙ e same)

    by_test : (t : Bool) → nat_eq (suc r) (suc rd) ≡ t → put (suc rd) c places (suc r) ≡ of (cond t (cond (nat_eq rd 1) Nameless b) (Was (InRegister (suc r))))
    by_test true h = at_pointer (nat_eq rd 1) refl (eqb-true (suc r) (suc rd) h)
    by_test false h = put_other (suc rd) c places (suc r) lt (λ s. let on : nat_eq (suc r) (suc rd) ≡ true = eq-eqb (suc r) (suc rd) s in cc)
        ∙ is.registers (suc r) lt

  pub register_past : (row : Row) (r : ℕ) → KnowsRow things row → r < 32 → places_past number next row places r ≡ of (back_register 0 row r)
  register_past (Fixes rd c) r k lt = put_is rd (number c) (Was (OfNumber c)) r lt (λ e. is.numbers c k)
  register_past (Moves rd rs) r k lt = put_is rd (places rs) (Was (InRegister rs)) r lt (λ e. is.registers rs k)
  register_past (Sets rd op a b) r k lt = put_is rd (next + rd) (New 0 rd) r lt (λ e. refl)
  register_past (Addresses rd n offset) r k lt = put_is rd (next + rd) (New 0 rd) r lt (λ e. refl)
  register_past (Loads rd op base offset) r k lt = put_is rd (next + rd) (New 0 rd) r lt (λ e. refl)
  register_past (LoadsSlot rd n) r k lt = put_is rd (places (slot_place n)) (Was (InSlot n)) r lt (λ e. is.slots n k)
  register_past (StoresSlot rs n) r k lt =
      let off : nat_eq r (slot_place n) ≡ false = grind (arith, nat_tests) in
      ap (λ (z : Bool). cond z (cond (nat_lt r PLACES) (places rs) 0) (places r)) off ∙ is.registers r lt
  register_past (Calls call) r k lt =
      ap (λ (z : Bool). cond (list_any (λ q. nat_eq r q) caller_saved) (next + r) (cond z 0 (places r))) (no_slot call.outgoing r lt)
      ∙ ap (λ (z : ℕ). cond (list_any (λ q. nat_eq r q) caller_saved) (next + r) z) (is.registers r lt)
      ∙ sym (cond_class class (λ r. next + r) (list_any (λ q. nat_eq r q) caller_saved) (New 0 r) (Was (InRegister r)))
  register_past _ r k lt = is.registers r lt

  -- ---- slots

  put_slot : (rd c n : ℕ) → Contains things (InSlot n) → put rd c places (slot_place n) ≡ of (cond (nat_eq rd 2 || false) Nameless (Was (InSlot n)))
  put_slot rd c n known =
      put_above rd c places (slot_place n) (omega arith)
      ∙ (ap (λ (z : ℕ). cond (nat_eq rd 2) 0 z) (is.slots n known)
      ∙ (ap (λ (z : Bool). cond z 0 (class (InSlot n))) (sym (or_false (nat_eq rd 2)))
      ∙ sym (cond_class class (λ r. next + r) (nat_eq rd 2 || false) Nameless (Was (InSlot n)))))

  store_slot : (rs m n : ℕ) → rs < 32 → Contains things (InSlot m) → Contains things (InSlot n) →
      cond (nat_eq (slot_place n) (slot_place m)) (cond (nat_lt (slot_place n) PLACES) (places rs) 0) (places (slot_place n))
      ≡ of (cond (nat_eq n m) (Was (InRegister rs)) (Was (InSlot n)))
  store_slot rs m n lt km kn = elim (eqb_tells n m) [
    | inl h ↦
        let at : nat_eq (slot_place n) (slot_place m) ≡ true = eq-eqb (slot_place n) (slot_place m) (ap slot_place h.1) in
        let o = is.offsets n kn in
        let within : nat_lt (slot_place n) PLACES ≡ true = lt-ltb (slot_place n) PLACES (omega (arith, o.1)) in
        ap (λ (z : Bool). cond z (cond (nat_lt (slot_place n) PLACES) (places rs) 0) (places (slot_place n))) at
        ∙ (ap (λ (z : Bool). cond z (places rs) 0) within ∙ (is.registers rs lt
        ∙ sym (ap (λ (z : Bool). of (cond z (Was (InRegister rs)) (Was (InSlot n)))) h.0)))
    | inr h ↦
        let o = is.offsets n kn in
        let p = is.offsets m km in
        let apart : slot_place n ≡ slot_place m → ⊥ = λ e. h.1 (omega (arith, o.0, p.0, e)) in
        ap (λ (z : Bool). cond z (cond (nat_lt (slot_place n) PLACES) (places rs) 0) (places (slot_place n))) (ne_eqb (slot_place n) (slot_place m) apart)
        ∙ (is.slots n kn ∙ sym (ap (λ (z : Bool). of (cond z (Was (InRegister rs)) (Was (InSlot n)))) h.0))
  ]

  pub slot_past : (row : Row) (n : ℕ) → KnowsRow things row → Contains things (InSlot n) →
      places_past number next row places (slot_place n) ≡ of (back_slot row n)
  slot_past (Fixes rd c) n k known = put_slot rd (number c) n known
  slot_past (Moves rd rs) n k known = put_slot rd (places rs) n known
  slot_past (Sets rd op a b) n k known = put_slot rd (next + rd) n known
  slot_past (Addresses rd m offset) n k known = put_slot rd (next + rd) n known
  slot_past (Loads rd op base offset) n k known = put_slot rd (next + rd) n known
  slot_past (LoadsSlot rd m) n k known = put_slot rd (places (slot_place m)) n known
  slot_past (StoresSlot rs m) n k known = store_slot rs m n k.0 k.1 known
  slot_past (Calls call) n k known =
      ap (λ (z : Bool). cond z (next + slot_place n) (cond (is_slot_at call.outgoing (slot_place n)) 0 (places (slot_place n))))
      (saved_below (slot_place n) (omega arith))
      ∙ ap (λ (z : Bool). cond z 0 (places (slot_place n))) (at_slot call.outgoing n (is.offsets n known).0)
      ∙ ap (λ (z : ℕ). cond (list_any (nat_eq n) call.outgoing) 0 z) (is.slots n known)
      ∙ sym (cond_class class (λ r. next + r) (list_any (nat_eq n) call.outgoing) Nameless (Was (InSlot n)))
  slot_past _ n k known = is.slots n known

  put_known : (rd c i : ℕ) → 32 ≤ i → put rd c places i ≢ 0 → Contains things (InSlot (8 * (i - 32)))
  put_known rd c i le some = is.slots_known i le (λ none. some (put_above rd c places i le ∙ by_test (nat_eq rd 2) none)) where
    by_test : (b : Bool) → places i ≡ 0 → cond b 0 (places i) ≡ 0
    by_test true none = refl
    by_test false none = none

  pub slots_known_past : (row : Row) (i : ℕ) → KnowsRow things row → 32 ≤ i → places_past number next row places i ≢ 0 → Contains things (InSlot (8 * (i - 32)))
  slots_known_past (Fixes rd c) i k le some = put_known rd (number c) i le some
  slots_known_past (Moves rd rs) i k le some = put_known rd (places rs) i le some
  slots_known_past (Sets rd op a b) i k le some = put_known rd (next + rd) i le some
  slots_known_past (Addresses rd m offset) i k le some = put_known rd (next + rd) i le some
  slots_known_past (Loads rd op base offset) i k le some = put_known rd (next + rd) i le some
  slots_known_past (LoadsSlot rd m) i k le some = put_known rd (places (slot_place m)) i le some
  slots_known_past (StoresSlot rs m) i k le some = elim (eqb_tells i (slot_place m)) [
    | inl h ↦
        let o = is.offsets m k.1 in
        let same : 8 * (i - 32) ≡ m = omega (arith, o.0, h.1) in
        subst (λ (z : ℕ). Contains things (InSlot z)) (sym same) k.1
    | inr h ↦ is.slots_known i le (λ none. some (ap (λ (z : Bool). cond z (cond (nat_lt i PLACES) (places rs) 0) (places i)) h.0 ∙ none))
  ]
  slots_known_past (Calls call) i k le some =
      is.slots_known i le (λ none. some (ap (λ (z : Bool). cond z (next + i) (cond (is_slot_at call.outgoing i) 0 (places i))) (saved_below i le)
      ∙ zero_either (is_slot_at call.outgoing i) (places i) none))
  slots_known_past _ i k le some = is.slots_known i le some
