-- The explicit operands of code in form, and the slots that stand for them.
use Rattle.std.proofs.Common.{◌≡◌, ◌⊎◌, ℕ, zero, suc, ◌≤◌, List, [], ◌∷◌, length, Contains, Option, Some, None, Bool, true, false, cond, ◌&&◌, nat_eq}
use Rattle.std.proofs.Common.{refl, sym, ap, ◌∙◌, subst, inl, inr, eq-eqb, ne_eqb, slice_get, arith}
use Rattle.std.specs.List.{list_all}
use Rattle.std.specs.Prelude.{IsTrue}
use Rattle.std.proofs.lemmas.Bool.{cases_eq, and_parts}
use Rattle.rv64_instr.specs.declared.op.Op.{Op}
use Rattle.rv64_instr.specs.declared.op.Op.TheVariants.{Registers, Immediate, Lui, Branch, Load, Store, Copy}
use Rattle.rv64_instr.specs.declared.op.Op.TheVariants.{PseudoBr, PseudoCall, PseudoRet, PseudoCallIndirect}
use Rattle.rv64_instr.specs.declared.op.Op.TheVariants.{PseudoTail, PseudoTailIndirect, NoReturnCall, NoReturnCallIndirect}
use Rattle.rv64_instr.specs.declared.op.ImmediateOp.{ImmediateOp}
use Rattle.rv64_instr.specs.declared.op.ImmediateOp.TheVariants.{Addi}
use Rattle.rv64_instr.specs.declared.operand.Operand.{Operand}
use Rattle.rv64_instr.specs.declared.operand.Operand.TheVariants.{Def, Use, Imm, Slot, Object, Part, Block, Symbol, Mask, ImplicitUse}
use Rattle.rv64_instr.specs.declared.symbol.Half.TheVariants.{Upper, Lower}
use Rattle.rv64_instr.specs.Arithmetic.{word}
use Rattle.rv64_instr.specs.Form.{is_implicit, is_argument, is_last_argument, is_call_register, is_result, is_immediate, is_addi, has_form}
use Rattle.rv64_instr.specs.Form.{is_held_tail_use, is_held_tail_register}
use Rattle.rv64_instr.proofs.Tails.{last_arguments, held_tail_uses}
use Rattle.rv64_instr.specs.Instruction.{Instruction}
use Rattle.rv64_instr.specs.Row.{Row, Calls, Returns, Held, row_by, row_of, immediate_row, object_row, move_row, Unfit, implicit_uses, outgoing_words, held_tail}
use Rattle.rv64_instr.specs.Row.{held_gone}
use Rattle.rv64_instr.specs.DefsAndUses.{reads, sets, callee_reads}
use Rattle.rv64_instr.specs.LocationEffects.{has_implicit_uses}
use Rattle.sem_mir.specs.Step.{defined}
use Rattle.sem_mir.proofs.Places.{contains_head, contains_tail}
use Rattle.spill_code.specs.declared.spilling.SlotAssignment.{SlotAssignment}
use Rattle.spill_code.specs.Rewrite.{slot_of, or_else, unless_is, first_used, other_used, first_defined}
use Rattle.spill_simulation.specs.MaySpill.{uses_in, defs_in}

-- ---- slots by the registers that are used and set

abbrev pub first_of : List SlotAssignment → List ℕ → Option ℕ
first_of homes [] = None
first_of homes (r ∷ rs) = or_else (slot_of homes r) (first_of homes rs)

abbrev pub other_of : List SlotAssignment → ℕ → List ℕ → Option ℕ
other_of homes n [] = None
other_of homes n (r ∷ rs) = or_else (unless_is n (slot_of homes r)) (other_of homes n rs)

module _ (homes : List SlotAssignment) where
  pub used_is : (os : List Operand) → first_used homes os ≡ first_of homes (uses_in os)
  used_is [] = refl
  used_is (Use r ∷ os) = ap (or_else (slot_of homes r)) (used_is os)
  used_is (_ ∷ os) = used_is os

  pub other_is : (n : ℕ) (os : List Operand) → other_used homes n os ≡ other_of homes n (uses_in os)
  other_is n [] = refl
  other_is n (Use r ∷ os) = ap (or_else (unless_is n (slot_of homes r))) (other_is n os)
  other_is n (_ ∷ os) = other_is n os

  pub defined_is : (os : List Operand) → first_defined homes os ≡ first_of homes (defs_in os)
  defined_is [] = refl
  defined_is (Def r ∷ os) = ap (or_else (slot_of homes r)) (defined_is os)
  defined_is (_ ∷ os) = defined_is os

  -- a slot that is found is that of one of the registers
  pub first_from : (rs : List ℕ) (n : ℕ) → first_of homes rs ≡ Some n → (r : ℕ) × Contains rs r × (slot_of homes r ≡ Some n)
  first_from [] n e = cc
  first_from (r ∷ rs) n e = by_slot (slot_of homes r) refl e (first_from rs n) where
    by_slot : (x : Option ℕ) → slot_of homes r ≡ x → or_else x (first_of homes rs) ≡ Some n →
        (first_of homes rs ≡ Some n → (q : ℕ) × Contains rs q × (slot_of homes q ≡ Some n)) → (q : ℕ) × Contains (r ∷ rs) q × (slot_of homes q ≡ Some n)
    by_slot None z e later = let w = later e in (w.0, contains_tail r w.0 rs w.1, w.2)
    by_slot (Some m) z e later = (r, contains_head r rs, z ∙ e)

  other_not : (n m : ℕ) → (x : Option ℕ) → unless_is n x ≡ Some m → (x ≡ Some m) × (n ≡ m → ⊥)
  other_not n m None e = cc
  other_not n m (Some k) e = by_test (nat_eq n k) refl e where
    by_test : (b : Bool) → nat_eq n k ≡ b → cond b None (Some k) ≡ Some m → (Some k ≡ Some m) × (n ≡ m → ⊥)
    by_test true z e = cc
    by_test false z e = (e, λ same. (let km : k ≡ m = cc in let bad : false ≡ true = sym z ∙ eq-eqb n k (same ∙ sym km) in cc))

  pub other_from : (n : ℕ) (rs : List ℕ) (m : ℕ) → other_of homes n rs ≡ Some m → (r : ℕ) × Contains rs r × (slot_of homes r ≡ Some m) × (n ≡ m → ⊥)
  other_from n [] m e = cc
  other_from n (r ∷ rs) m e = by_slot (unless_is n (slot_of homes r)) refl e (other_from n rs m) where
    by_slot : (x : Option ℕ) → unless_is n (slot_of homes r) ≡ x → or_else x (other_of homes n rs) ≡ Some m →
        (other_of homes n rs ≡ Some m → (q : ℕ) × Contains rs q × (slot_of homes q ≡ Some m) × (n ≡ m → ⊥)) →
        (q : ℕ) × Contains (r ∷ rs) q × (slot_of homes q ≡ Some m) × (n ≡ m → ⊥)
    by_slot None z e later = let w = later e in (w.0, contains_tail r w.0 rs w.1, w.2, w.3)
    by_slot (Some k) z e later = let w = other_not n m (slot_of homes r) (z ∙ e) in (r, contains_head r rs, w.0, w.1)

  first_at : (r : ℕ) (rs : List ℕ) (n : ℕ) → slot_of homes r ≡ Some n → first_of homes (r ∷ rs) ≡ Some n
  first_at r rs n e = ap (λ (x : Option ℕ). or_else x (first_of homes rs)) e

  -- of two registers at most, each that is spilled has the first slot or the other
  pub found_of : (rs : List ℕ) → length rs ≤ 2 → (q n : ℕ) → Contains rs q → slot_of homes q ≡ Some n →
      (first_of homes rs ≡ Some n) ⊎ ((m : ℕ) × (first_of homes rs ≡ Some m) × (m ≡ n → ⊥) × (other_of homes m rs ≡ Some n))
  found_of [] le q n (k, lt, e) s = absurd (omega (arith, lt))
  found_of (a ∷ rs) le q n (zero, lt, e) s = inl (first_at a rs n (ap (slot_of homes) e ∙ s))
  found_of (a ∷ []) le q n (suc k, lt, e) s = absurd (omega (arith, lt))
  found_of (a ∷ b ∷ []) le q n (suc zero, lt, e) s = by_slot (slot_of homes a) refl where
    sb : slot_of homes b ≡ Some n
    sb = ap (slot_of homes) e ∙ s

    by_slot : (x : Option ℕ) → slot_of homes a ≡ x →
        (first_of homes (a ∷ b ∷ []) ≡ Some n) ⊎
        ((m : ℕ) × (first_of homes (a ∷ b ∷ []) ≡ Some m) × (m ≡ n → ⊥) × (other_of homes m (a ∷ b ∷ []) ≡ Some n))
    by_slot None z = inl (ap (λ (x : Option ℕ). or_else x (first_of homes (b ∷ []))) z ∙ first_at b [] n sb)
    by_slot (Some m) z =
        elim (cases_eq m n) as (λ _. (first_of homes (a ∷ b ∷ []) ≡ Some n) ⊎
        ((m : ℕ) × (first_of homes (a ∷ b ∷ []) ≡ Some m) × (m ≡ n → ⊥) × (other_of homes m (a ∷ b ∷ []) ≡ Some n))) [
          | inl same ↦ inl (first_at a (b ∷ []) m z ∙ ap Some same)
          | inr ne ↦
              let here : unless_is m (slot_of homes a) ≡ None = ap (unless_is m) z ∙ ap (λ (t : Bool). cond t None (Some m)) (eq-eqb m m refl) in
              let there : unless_is m (slot_of homes b) ≡ Some n = ap (unless_is m) sb ∙ ap (λ (t : Bool). cond t None (Some n)) (ne_eqb m n ne) in
              inr (m, first_at a (b ∷ []) m z, ne, (λ i. or_else (here i) (or_else (there i) None)))
        ]
  found_of (a ∷ b ∷ []) le q n (suc (suc k), lt, e) s = absurd (omega (arith, lt))
  found_of (a ∷ b ∷ c ∷ rs) le q n (suc k, lt, e) s = absurd (omega (arith, le))

-- ---- what code in form reads and sets

-- the registers that a row reads by explicit operands
abbrev pub explicit_reads : Row → List ℕ
explicit_reads (Calls call) = callee_reads call.callee
explicit_reads (Returns ending) = []
explicit_reads row = reads row

-- without implicit uses these are all
pub plain_reads : (r : Row) → has_implicit_uses r ≡ false → explicit_reads r ≡ reads r
plain_reads (Calls call) i = cc
plain_reads (Returns ending) i = cc
plain_reads _ i = refl

pub record Explicit (r : Row) (us ds : List ℕ) : Type 0 where
  pub few : length us ≤ 2
  pub explicit_used : (q : ℕ) → Contains (explicit_reads r) q → (q ≡ 0 → ⊥) → Contains us q
  pub used_explicit : (q : ℕ) → Contains us q → (q ≡ 0 → ⊥) → Contains (explicit_reads r) q
  pub reads_used : has_implicit_uses r ≡ false → (q : ℕ) → Contains (reads r) q → (q ≡ 0 → ⊥) → Contains us q
  pub used_reads : (q : ℕ) → Contains us q → (q ≡ 0 → ⊥) → Contains (reads r) q
  pub sets_defs : has_implicit_uses r ≡ false → sets r ≡ ds
  pub implicit_none : has_implicit_uses r ≡ true → ds ≡ []

none_in : (q : ℕ) → Contains [] q → ⊥
none_in q (k, lt, e) = absurd (omega (arith, lt))

only_zero : (q : ℕ) → Contains (0 ∷ []) q → (q ≡ 0 → ⊥) → ⊥
only_zero q (zero, lt, e) ne = ne (sym e)
only_zero q (suc k, lt, e) ne = absurd (omega (arith, lt))

reads_all : (r : Row) (us ds : List ℕ) → length us ≤ 2 → reads r ≡ us → sets r ≡ ds → has_implicit_uses r ≡ false → Explicit r us ds
reads_all r us ds le e d i = record {
  few = le;
  explicit_used = λ q k ne. subst (λ (xs : List ℕ). Contains xs q) (plain_reads r i ∙ e) k;
  used_explicit = λ q k ne. subst (λ (xs : List ℕ). Contains xs q) (sym (plain_reads r i ∙ e)) k;
  reads_used = λ _ q k ne. subst (λ (xs : List ℕ). Contains xs q) e k;
  used_reads = λ q k ne. subst (λ (xs : List ℕ). Contains xs q) (sym e) k;
  sets_defs = λ _. d;
  implicit_none = λ t. (let bad : false ≡ true = sym i ∙ t in cc);
}

reads_zero : (r : Row) (ds : List ℕ) → reads r ≡ [] → sets r ≡ ds → has_implicit_uses r ≡ false → Explicit r (0 ∷ []) ds
reads_zero r ds e d i = record {
  few = omega arith;
  explicit_used = λ q k ne. absurd (none_in q (subst (λ (xs : List ℕ). Contains xs q) (plain_reads r i ∙ e) k));
  used_explicit = λ q k ne. absurd (only_zero q k ne);
  reads_used = λ _ q k ne. absurd (none_in q (subst (λ (xs : List ℕ). Contains xs q) e k));
  used_reads = λ q k ne. absurd (only_zero q k ne);
  sets_defs = λ _. d;
  implicit_none = λ t. (let bad : false ≡ true = sym i ∙ t in cc);
}

-- code that reads x0 by no operand
reads_only_zero : (r : Row) (ds : List ℕ) → reads r ≡ 0 ∷ [] → sets r ≡ ds → has_implicit_uses r ≡ false → Explicit r [] ds
reads_only_zero r ds e d i = record {
  few = omega arith;
  explicit_used = λ q k ne. absurd (only_zero q (subst (λ (xs : List ℕ). Contains xs q) (plain_reads r i ∙ e) k) ne);
  used_explicit = λ q k ne. absurd (none_in q k);
  reads_used = λ _ q k ne. absurd (only_zero q (subst (λ (xs : List ℕ). Contains xs q) e k) ne);
  used_reads = λ q k ne. absurd (none_in q k);
  sets_defs = λ _. d;
  implicit_none = λ t. (let bad : false ≡ true = sym i ∙ t in cc);
}

implicit_row : (r : Row) → has_implicit_uses r ≡ true → explicit_reads r ≡ [] → Explicit r [] []
implicit_row r i e = record {
  few = omega arith;
  explicit_used = λ q k ne. absurd (none_in q (subst (λ (xs : List ℕ). Contains xs q) e k));
  used_explicit = λ q k ne. absurd (none_in q k);
  reads_used = λ f q k ne. (let bad : true ≡ false = sym i ∙ f in cc);
  used_reads = λ q k ne. absurd (none_in q k);
  sets_defs = λ f. (let bad : true ≡ false = sym i ∙ f in cc);
  implicit_none = λ t. refl;
}

one_of_more : (q p : ℕ) (rs : List ℕ) → Contains (q ∷ []) p → Contains (q ∷ rs) p
one_of_more q p rs (zero, lt, e) = subst (λ (z : ℕ). Contains (q ∷ rs) z) e (contains_head q rs)
one_of_more q p rs (suc k, lt, e) = absurd (omega (arith, lt))

-- a call by a register
held_row : (q : ℕ) (args outgoing : List ℕ) → Explicit (Calls (record { callee = Held q; args = args; outgoing = outgoing })) (q ∷ []) []
held_row q args outgoing = record {
  few = omega arith;
  explicit_used = λ p k ne. k;
  used_explicit = λ p k ne. k;
  reads_used = λ f p k ne. (let bad : true ≡ false = f in cc);
  used_reads = λ p k ne. one_of_more q p args k;
  sets_defs = λ f. (let bad : true ≡ false = f in cc);
  implicit_none = λ t. refl;
}

-- implicit operands are no explicit ones
all_implicit : (p : Operand → Bool) → ((o : Operand) → p o ≡ true → (uses_in (o ∷ []) ≡ []) × (defs_in (o ∷ []) ≡ [])) →
    (os : List Operand) → list_all p os ≡ true → (uses_in os ≡ []) × (defs_in os ≡ [])
all_implicit p none [] e = (refl, refl)
all_implicit p none (o ∷ os) e =
    let k = and_parts (p o) (list_all p os) e in
    let rest = all_implicit p none os k.1 in
    by_operand o (none o k.0) rest where
      by_operand : (o : Operand) → (uses_in (o ∷ []) ≡ []) × (defs_in (o ∷ []) ≡ []) → (uses_in os ≡ []) × (defs_in os ≡ []) →
          (uses_in (o ∷ os) ≡ []) × (defs_in (o ∷ os) ≡ [])
      by_operand (Use r) h rest = absurd (let bad : r ∷ [] ≡ [] = h.0 in cc)
      by_operand (Def r) h rest = absurd (let bad : r ∷ [] ≡ [] = h.1 in cc)
      by_operand _ h rest = rest

implicit_none_of : (o : Operand) → is_implicit o ≡ true → (uses_in (o ∷ []) ≡ []) × (defs_in (o ∷ []) ≡ [])
implicit_none_of (Use r) e = cc
implicit_none_of (Def r) e = cc
implicit_none_of _ e = (refl, refl)

argument_none_of : (o : Operand) → is_argument o ≡ true → (uses_in (o ∷ []) ≡ []) × (defs_in (o ∷ []) ≡ [])
argument_none_of (Use r) e = cc
argument_none_of (Def r) e = cc
argument_none_of _ e = (refl, refl)

result_none_of : (o : Operand) → is_result o ≡ true → (uses_in (o ∷ []) ≡ []) × (defs_in (o ∷ []) ≡ [])
result_none_of (Use r) e = cc
result_none_of (Def r) e = cc
result_none_of _ e = (refl, refl)

tail_none_of : (o : Operand) → is_held_tail_use o ≡ true → (uses_in (o ∷ []) ≡ []) × (defs_in (o ∷ []) ≡ [])
tail_none_of (Use r) e = cc
tail_none_of (Def r) e = cc
tail_none_of _ e = (refl, refl)

rest_none : (os : List Operand) → list_all is_implicit os ≡ true → (uses_in os ≡ []) × (defs_in os ≡ [])
rest_none os e = all_implicit is_implicit implicit_none_of os e

-- with what implicit operands add
with_rest : (r : Row) (rest : List Operand) (us ds : List ℕ → List ℕ) → list_all is_implicit rest ≡ true → Explicit r (us []) (ds []) →
    Explicit r (us (uses_in rest)) (ds (defs_in rest))
with_rest r rest us ds e h =
    let k = rest_none rest e in
    subst (λ (x : List ℕ). Explicit r (us x) (ds (defs_in rest))) (sym k.0)
    (subst (λ (x : List ℕ). Explicit r (us []) (ds x)) (sym k.1) h)

add_explicit : (rd a n : ℕ) → Explicit (immediate_row Addi rd a n) (a ∷ []) (rd ∷ [])
add_explicit rd zero n = reads_zero (immediate_row Addi rd zero n) (rd ∷ []) refl refl refl
add_explicit rd (suc r) zero = reads_all (immediate_row Addi rd (suc r) zero) (suc r ∷ []) (rd ∷ []) (omega arith) refl refl refl
add_explicit rd (suc r) (suc n) = reads_all (immediate_row Addi rd (suc r) (suc n)) (suc r ∷ []) (rd ∷ []) (omega arith) refl refl refl

immediate_explicit : (op : ImmediateOp) (rd a n : ℕ) → Explicit (immediate_row op rd a n) (a ∷ []) (rd ∷ [])
immediate_explicit Addi rd a n = add_explicit rd a n
immediate_explicit op rd a n = reads_all (immediate_row op rd a n) (a ∷ []) (rd ∷ []) (omega arith) refl refl refl

object_explicit : (op : ImmediateOp) (rd n o : ℕ) → is_addi op ≡ true → Explicit (object_row op rd n o) [] (rd ∷ [])
object_explicit Addi rd n o e = reads_all (object_row Addi rd n o) [] (rd ∷ []) (omega arith) refl refl refl
object_explicit _ rd n o e = cc

move_explicit : (rd a : ℕ) → Explicit (move_row rd a) (a ∷ []) (rd ∷ [])
move_explicit rd zero = reads_zero (move_row rd zero) (rd ∷ []) refl refl refl
move_explicit rd (suc r) = reads_all (move_row rd (suc r)) (suc r ∷ []) (rd ∷ []) (omega arith) refl refl refl

behind : (b c : Bool) → (b && c) ≡ true → c ≡ true
behind b c e = (and_parts b c e).1

-- a row without explicit operands, where the implicit ones are of a kind
ended : (r : Row) (rest : List Operand) (p : Operand → Bool) → ((o : Operand) → p o ≡ true → (uses_in (o ∷ []) ≡ []) × (defs_in (o ∷ []) ≡ [])) →
    list_all p rest ≡ true → Explicit r [] [] → Explicit r (uses_in rest) (defs_in rest)
ended r rest p none e h =
    let k = all_implicit p none rest e in
    subst (λ (x : List ℕ). Explicit r x (defs_in rest)) (sym k.0) (subst (λ (x : List ℕ). Explicit r [] x) (sym k.1) h)

unfit : Explicit Unfit [] []
unfit = reads_all Unfit [] [] (omega arith) refl refl refl

held_tail_row_of : (xs : List ℕ) → Explicit (held_tail xs) [] []
held_tail_row_of [] = unfit
held_tail_row_of (x ∷ xs) = implicit_row (held_tail (x ∷ xs)) refl refl

held_gone_row_of : (xs : List ℕ) → Explicit (held_gone xs) [] []
held_gone_row_of [] = unfit
held_gone_row_of (x ∷ xs) = implicit_row (held_gone (x ∷ xs)) refl refl

by_op : (op : Op) (os : List Operand) → has_form op os ≡ true → Explicit (row_by op os) (uses_in os) (defs_in os)
by_op (Registers op) (Def rd ∷ Use a ∷ Use b ∷ rest) e =
    let r = row_by (Registers op) (Def rd ∷ Use a ∷ Use b ∷ rest) in
    with_rest r rest (λ xs. a ∷ b ∷ xs) (λ xs. rd ∷ xs) e (reads_all r (a ∷ b ∷ []) (rd ∷ []) (omega arith) refl refl refl)
by_op (Immediate op) (Def rd ∷ Use a ∷ Imm i ∷ rest) e =
    with_rest (immediate_row op rd a (word i)) rest (λ xs. a ∷ xs) (λ xs. rd ∷ xs) (behind (is_immediate op i) (list_all is_implicit rest) e)
    (immediate_explicit op rd a (word i))
by_op (Immediate op) (Def rd ∷ Object n ∷ Imm i ∷ rest) e =
    let k = and_parts (is_addi op && is_immediate op i) (list_all is_implicit rest) e in
    with_rest (object_row op rd n (word i)) rest (λ xs. xs) (λ xs. rd ∷ xs) k.1
    (object_explicit op rd n (word i) (and_parts (is_addi op) (is_immediate op i) k.0).0)
by_op (Immediate op) (Def rd ∷ Use a ∷ Part Lower y ∷ rest) e =
    let r = row_by (Immediate op) (Def rd ∷ Use a ∷ Part Lower y ∷ rest) in
    with_rest r rest (λ xs. a ∷ xs) (λ xs. rd ∷ xs) (behind (is_addi op) (list_all is_implicit rest) e) (reads_all r (a ∷ []) (rd ∷ []) (omega arith) refl
    refl refl)
by_op Lui (Def rd ∷ Imm i ∷ rest) e =
    let r = row_by Lui (Def rd ∷ Imm i ∷ rest) in
    with_rest r rest (λ xs. xs) (λ xs. rd ∷ xs) (behind _ (list_all is_implicit rest) e) (reads_all r [] (rd ∷ []) (omega arith) refl refl refl)
by_op Lui (Def rd ∷ Part Upper y ∷ rest) e =
    let r = row_by Lui (Def rd ∷ Part Upper y ∷ rest) in
    with_rest r rest (λ xs. xs) (λ xs. rd ∷ xs) e (reads_only_zero r (rd ∷ []) refl refl refl)
by_op (Branch op) (Use a ∷ Use b ∷ Block n ∷ rest) e =
    let r = row_by (Branch op) (Use a ∷ Use b ∷ Block n ∷ rest) in
    with_rest r rest (λ xs. a ∷ b ∷ xs) (λ xs. xs) e (reads_all r (a ∷ b ∷ []) [] (omega arith) refl refl refl)
by_op (Load op) (Def rd ∷ Use a ∷ Imm i ∷ rest) e =
    let r = row_by (Load op) (Def rd ∷ Use a ∷ Imm i ∷ rest) in
    with_rest r rest (λ xs. a ∷ xs) (λ xs. rd ∷ xs) (behind _ (list_all is_implicit rest) e) (reads_all r (a ∷ []) (rd ∷ []) (omega arith) refl refl refl)
by_op (Load op) (Def rd ∷ Slot n ∷ Imm i ∷ rest) e =
    let r = row_by (Load op) (Def rd ∷ Slot n ∷ Imm i ∷ rest) in
    with_rest r rest (λ xs. xs) (λ xs. rd ∷ xs) (behind _ (list_all is_implicit rest) e) (reads_all r [] (rd ∷ []) (omega arith) refl refl refl)
by_op (Load op) (Def rd ∷ Object n ∷ Imm i ∷ rest) e =
    let r = row_by (Load op) (Def rd ∷ Object n ∷ Imm i ∷ rest) in
    with_rest r rest (λ xs. xs) (λ xs. rd ∷ xs) (behind _ (list_all is_implicit rest) e) (reads_all r [] (rd ∷ []) (omega arith) refl refl refl)
by_op (Load op) (Def rd ∷ Use a ∷ Part Lower y ∷ rest) e =
    let r = row_by (Load op) (Def rd ∷ Use a ∷ Part Lower y ∷ rest) in
    with_rest r rest (λ xs. a ∷ xs) (λ xs. rd ∷ xs) e (reads_all r (a ∷ []) (rd ∷ []) (omega arith) refl refl refl)
by_op (Store op) (Use a ∷ Use b ∷ Imm i ∷ rest) e =
    let r = row_by (Store op) (Use a ∷ Use b ∷ Imm i ∷ rest) in
    with_rest r rest (λ xs. a ∷ b ∷ xs) (λ xs. xs) (behind _ (list_all is_implicit rest) e) (reads_all r (a ∷ b ∷ []) [] (omega arith) refl refl refl)
by_op (Store op) (Use a ∷ Slot n ∷ Imm i ∷ rest) e =
    let r = row_by (Store op) (Use a ∷ Slot n ∷ Imm i ∷ rest) in
    with_rest r rest (λ xs. a ∷ xs) (λ xs. xs) (behind _ (list_all is_implicit rest) e) (reads_all r (a ∷ []) [] (omega arith) refl refl refl)
by_op (Store op) (Use a ∷ Object n ∷ Imm i ∷ rest) e =
    let r = row_by (Store op) (Use a ∷ Object n ∷ Imm i ∷ rest) in
    with_rest r rest (λ xs. a ∷ xs) (λ xs. xs) (behind _ (list_all is_implicit rest) e) (reads_all r (a ∷ []) [] (omega arith) refl refl refl)
by_op (Store op) (Use a ∷ Use b ∷ Part Lower y ∷ rest) e =
    let r = row_by (Store op) (Use a ∷ Use b ∷ Part Lower y ∷ rest) in
    with_rest r rest (λ xs. a ∷ b ∷ xs) (λ xs. xs) e (reads_all r (a ∷ b ∷ []) [] (omega arith) refl refl refl)
by_op Copy (Def rd ∷ Use a ∷ rest) e =
    with_rest (move_row rd a) rest (λ xs. a ∷ xs) (λ xs. rd ∷ xs) e (move_explicit rd a)
by_op PseudoBr (Block n ∷ rest) e =
    let r = row_by PseudoBr (Block n ∷ rest) in
    with_rest r rest (λ xs. xs) (λ xs. xs) e (reads_all r [] [] (omega arith) refl refl refl)
by_op PseudoCall (Symbol name ∷ Mask ∷ rest) e =
    let k = all_implicit is_argument argument_none_of rest e in
    let r = row_by PseudoCall (Symbol name ∷ Mask ∷ rest) in
    subst (λ (x : List ℕ). Explicit r x (defs_in rest)) (sym k.0) (subst (λ (x : List ℕ). Explicit r [] x) (sym k.1) (implicit_row r refl refl))
by_op PseudoRet os e =
    let k = all_implicit is_result result_none_of os e in
    let r = row_by PseudoRet os in
    subst (λ (x : List ℕ). Explicit r x (defs_in os)) (sym k.0) (subst (λ (x : List ℕ). Explicit r [] x) (sym k.1) (implicit_row r refl refl))
by_op PseudoCallIndirect (Use q ∷ Mask ∷ rest) e =
    let k = all_implicit is_argument argument_none_of rest e in
    let r = row_by PseudoCallIndirect (Use q ∷ Mask ∷ rest) in
    subst (λ (x : List ℕ). Explicit r (q ∷ x) (defs_in rest)) (sym k.0)
    (subst (λ (x : List ℕ). Explicit r (q ∷ []) x) (sym k.1) (held_row q (implicit_uses rest) (outgoing_words rest)))
by_op PseudoTail (Symbol name ∷ rest) e =
    let r = row_by PseudoTail (Symbol name ∷ rest) in
    ended r rest is_held_tail_use tail_none_of (held_tail_uses rest e) (implicit_row r refl refl)
by_op PseudoTailIndirect (ImplicitUse q ∷ rest) e =
    ended (held_tail (implicit_uses (ImplicitUse q ∷ rest))) rest is_held_tail_use tail_none_of
    (behind (is_held_tail_register q) (list_all is_held_tail_use rest) e) (held_tail_row_of (implicit_uses (ImplicitUse q ∷ rest)))
by_op NoReturnCall (Symbol name ∷ Mask ∷ rest) e =
    let r = row_by NoReturnCall (Symbol name ∷ Mask ∷ rest) in
    ended r rest is_argument argument_none_of (last_arguments rest e) (implicit_row r refl refl)
by_op NoReturnCallIndirect (ImplicitUse q ∷ Mask ∷ rest) e =
    ended (held_gone (implicit_uses (ImplicitUse q ∷ Mask ∷ rest))) rest is_argument argument_none_of
    (last_arguments rest (behind (is_call_register q) (list_all is_last_argument rest) e)) (held_gone_row_of (implicit_uses (ImplicitUse q ∷ Mask ∷ rest)))
by_op _ _ e = cc

pub explicit : (i : Instruction) → IsTrue (has_form i.op i.operands) → Explicit (row_of i) (uses_in i.operands) (defs_in i.operands)
explicit i e = by_op i.op i.operands e

-- a register that an explicit definition sets is one of those
pub defined_in : (os : List Operand) (o r : ℕ) → defined false (slice_get os o) ≡ Some r → Contains (defs_in os) r
defined_in [] o r e = cc
defined_in (Def q ∷ os) zero r e = let z : q ≡ r = cc in subst (λ (x : ℕ). Contains (q ∷ defs_in os) x) z (contains_head q (defs_in os))
defined_in (Def q ∷ os) (suc o) r e = contains_tail q r (defs_in os) (defined_in os o r e)
defined_in (_ ∷ os) zero r e = cc
defined_in (_ ∷ os) (suc o) r e = defined_in os o r e
