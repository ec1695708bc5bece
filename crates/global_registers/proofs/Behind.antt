-- One operand more at the end, which says that global registers are read: the row and the form of the instruction stay.
use Rattle.std.proofs.Common.{◌≡◌, ◌⊎◌, ℕ, zero, suc, List, [], ◌∷◌, ◌++◌, slice_get, Bool, true, false, ◌&&◌, cond, nat_eq, refl, sym, ap, ◌∙◌, inl, inr}
use Rattle.std.specs.Prelude.{All}
use Rattle.std.specs.List.{list_all}
use Rattle.std.proofs.lemmas.Bool.{and_parts}
use Rattle.std.proofs.lemmas.List.Elements.{All-nil, All-cons, All-head, All-tail, All-append}
use Rattle.rv64_instr.specs.declared.op.Op.{Op}
use Rattle.rv64_instr.specs.declared.op.Op.TheVariants.{Registers, Immediate, Lui, Branch, Load, Store, Copy}
use Rattle.rv64_instr.specs.declared.op.Op.TheVariants.{PseudoBr, PseudoCall, PseudoRet, PseudoCallIndirect}
use Rattle.rv64_instr.specs.declared.op.Op.TheVariants.{PseudoTail, PseudoTailIndirect, NoReturnCall, NoReturnCallIndirect}
use Rattle.rv64_instr.specs.declared.operand.Operand.{Operand}
use Rattle.rv64_instr.specs.declared.operand.Operand.TheVariants.{Def, Use, ImplicitUse, Imm, Slot, Object, Part, Block, Symbol, Mask, Outgoing}
use Rattle.rv64_instr.specs.declared.operand.Operand.TheVariants.{GlobalRegisters}
use Rattle.rv64_instr.specs.declared.symbol.Half.TheVariants.{Upper, Lower}
use Rattle.rv64_instr.specs.Arithmetic.{load_width, store_width}
use Rattle.rv64_instr.specs.Instruction.{Instruction}
use Rattle.rv64_instr.specs.Form.{has_form, has_12_bits, is_addi, is_immediate, moves_slot, is_implicit, is_argument, is_last_argument, is_result}
use Rattle.rv64_instr.specs.Form.{is_tail_use, is_held_tail_use, is_call_register, is_held_tail_register}
use Rattle.rv64_instr.specs.Row.{Named, Held, Back, Tail, Never, Calls, Returns, row_by, row_of, implicit_uses, outgoing_words, held_tail, held_gone}
use Rattle.sem_mir.specs.Step.{defined}
use Rattle.global_registers.specs.Shared.{hands_over, is_shared, without_shared, operands_by, code_by}

abbrev pub one_more : List Operand → List Operand
one_more os = os ++ GlobalRegisters ∷ []

-- ---- rows

uses_stay : (os : List Operand) → implicit_uses (one_more os) ≡ implicit_uses os
uses_stay [] = refl
uses_stay (ImplicitUse r ∷ os) = ap (λ (z : List ℕ). cond (nat_eq r 2) z (r ∷ z)) (uses_stay os)
uses_stay (_ ∷ os) = uses_stay os

words_stay : (os : List Operand) → outgoing_words (one_more os) ≡ outgoing_words os
words_stay [] = refl
words_stay (Outgoing n ∷ os) = ap (λ (z : List ℕ). n ∷ z) (words_stay os)
words_stay (_ ∷ os) = words_stay os

row_stays : (op : Op) (os : List Operand) → row_by op (one_more os) ≡ row_by op os
row_stays (Registers op) (Def rd ∷ Use a ∷ Use b ∷ rest) = refl
row_stays (Immediate op) (Def rd ∷ Use a ∷ Imm i ∷ rest) = refl
row_stays (Immediate op) (Def rd ∷ Object n ∷ Imm i ∷ rest) = refl
row_stays (Immediate op) (Def rd ∷ Use a ∷ Part half y ∷ rest) = refl
row_stays Lui (Def rd ∷ Imm i ∷ rest) = refl
row_stays Lui (Def rd ∷ Part half y ∷ rest) = refl
row_stays (Branch op) (Use a ∷ Use b ∷ Block n ∷ rest) = refl
row_stays (Load op) (Def rd ∷ Use base ∷ Imm i ∷ rest) = refl
row_stays (Load op) (Def rd ∷ Slot n ∷ rest) = refl
row_stays (Load op) (Def rd ∷ Object n ∷ Imm i ∷ rest) = refl
row_stays (Load op) (Def rd ∷ Use base ∷ Part half y ∷ rest) = refl
row_stays (Store op) (Use rs ∷ Use base ∷ Imm i ∷ rest) = refl
row_stays (Store op) (Use rs ∷ Slot n ∷ rest) = refl
row_stays (Store op) (Use rs ∷ Object n ∷ Imm i ∷ rest) = refl
row_stays (Store op) (Use rs ∷ Use base ∷ Part half y ∷ rest) = refl
row_stays Copy (Def rd ∷ Use rs ∷ rest) = refl
row_stays PseudoBr (Block n ∷ rest) = refl
row_stays PseudoCall (Symbol name ∷ rest) =
    let args = uses_stay rest in
    let words = words_stay rest in
    λ i. Calls (record { callee = Named name; args = args i; outgoing = words i })
row_stays PseudoRet os = let values = uses_stay os in λ i. Returns (record { way = Back; values = values i })
row_stays PseudoCallIndirect (Use r ∷ rest) =
    let args = uses_stay rest in
    let words = words_stay rest in
    λ i. Calls (record { callee = Held r; args = args i; outgoing = words i })
row_stays PseudoTail (Symbol name ∷ rest) = let values = uses_stay rest in λ i. Returns (record { way = Tail (Named name); values = values i })
row_stays PseudoTailIndirect os = ap held_tail (uses_stay os)
row_stays NoReturnCall (Symbol name ∷ rest) = let values = uses_stay rest in λ i. Returns (record { way = Never (Named name); values = values i })
row_stays NoReturnCallIndirect os = ap held_gone (uses_stay os)
row_stays _ _ = refl

-- ---- the operands without a last one that says so

pub without_is : (os : List Operand) → (without_shared os ≡ os) ⊎ (os ≡ one_more (without_shared os))
without_is [] = inl refl
without_is (GlobalRegisters ∷ []) = inr refl
without_is (o ∷ []) = inl refl
without_is (o ∷ p ∷ os) = elim (without_is (p ∷ os)) [
  | inl e ↦ inl (ap (λ (z : List Operand). o ∷ z) e)
  | inr e ↦ inr (ap (λ (z : List Operand). o ∷ z) e)
]

cons_in : (x : Operand) (b : Bool) (p q : List Operand) → x ∷ cond b p q ≡ cond b (x ∷ p) (x ∷ q)
cons_in x true p q = refl
cons_in x false p q = refl

pub last_taken : (front : List Operand) (o : Operand) → without_shared (front ++ o ∷ []) ≡ cond (is_shared o) front (front ++ o ∷ [])
last_taken [] o = refl
last_taken (x ∷ []) o = cons_in x (is_shared o) [] (o ∷ [])
last_taken (x ∷ y ∷ ys) o =
    ap (λ (z : List Operand). x ∷ z) (last_taken (y ∷ ys) o) ∙ cons_in x (is_shared o) (y ∷ ys) (y ∷ ys ++ o ∷ [])

pub row_shared : (shares : Bool) (i : Instruction) → row_of (code_by shares i) ≡ row_of i
row_shared true i = by_op (hands_over i.op) where
  by_op : (b : Bool) → row_by i.op (cond b (one_more i.operands) i.operands) ≡ row_by i.op i.operands
  by_op true = row_stays i.op i.operands
  by_op false = refl
row_shared false i = elim (without_is i.operands) [
  | inl e ↦ ap (row_by i.op) e
  | inr e ↦ sym (row_stays i.op (without_shared i.operands)) ∙ ap (row_by i.op) (sym e)
]

-- ---- what is defined

defined_stays : (call : Bool) (os : List Operand) (o : ℕ) → defined call (slice_get (one_more os) o) ≡ defined call (slice_get os o)
defined_stays true [] zero = refl
defined_stays false [] zero = refl
defined_stays call [] (suc o) = refl
defined_stays call (x ∷ os) zero = refl
defined_stays call (x ∷ os) (suc o) = defined_stays call os o

pub defined_shared : (shares call : Bool) (i : Instruction) (o : ℕ) → defined call (slice_get (operands_by shares i) o) ≡ defined call (slice_get i.operands o)
defined_shared true call i o = by_op (hands_over i.op) where
  by_op : (b : Bool) → defined call (slice_get (cond b (one_more i.operands) i.operands) o) ≡ defined call (slice_get i.operands o)
  by_op true = defined_stays call i.operands o
  by_op false = refl
defined_shared false call i o = elim (without_is i.operands) [
  | inl e ↦ ap (λ (os : List Operand). defined call (slice_get os o)) e
  | inr e ↦ sym (defined_stays call (without_shared i.operands) o) ∙ ap (λ (os : List Operand). defined call (slice_get os o)) (sym e)
]

-- ---- what holds of each operand

module _ (P : Operand → Type 0) (here : P GlobalRegisters) where
  without_all : (os : List Operand) → All P os → All P (without_shared os)
  without_all [] h = h
  without_all (GlobalRegisters ∷ []) h = All-nil P
  without_all (o ∷ []) h = h
  without_all (o ∷ p ∷ os) h = All-cons P o (without_shared (p ∷ os)) (All-head P o (p ∷ os) h) (without_all (p ∷ os) (All-tail P o (p ∷ os) h))

  pub operands_hold : (shares : Bool) (i : Instruction) → All P i.operands → All P (operands_by shares i)
  operands_hold true i h = by_op (hands_over i.op) where
    by_op : (b : Bool) → All P (cond b (one_more i.operands) i.operands)
    by_op true = All-append P i.operands (GlobalRegisters ∷ []) h (All-cons P GlobalRegisters [] here (All-nil P))
    by_op false = h
  operands_hold false i h = without_all i.operands h

-- ---- forms

all_stay : (p : Operand → Bool) → p GlobalRegisters ≡ true → (os : List Operand) → list_all p (one_more os) ≡ list_all p os
all_stay p here [] = ap (λ (b : Bool). b && true) here
all_stay p here (o ∷ os) = ap (λ (b : Bool). p o && b) (all_stay p here os)

form_more : (op : Op) (os : List Operand) → hands_over op ≡ true → has_form op os ≡ true → has_form op (one_more os) ≡ true
form_more PseudoCall (Symbol name ∷ Mask ∷ rest) h e = all_stay is_argument refl rest ∙ e
form_more PseudoRet os h e = all_stay is_result refl os ∙ e
form_more PseudoCallIndirect (Use r ∷ Mask ∷ rest) h e = all_stay is_argument refl rest ∙ e
form_more PseudoTail (Symbol name ∷ rest) h e = all_stay is_tail_use refl rest ∙ e
form_more PseudoTailIndirect (ImplicitUse r ∷ rest) h e = ap (λ (b : Bool). is_held_tail_register r && b) (all_stay is_held_tail_use refl rest) ∙ e
form_more NoReturnCall (Symbol name ∷ Mask ∷ rest) h e = all_stay is_last_argument refl rest ∙ e
form_more NoReturnCallIndirect (ImplicitUse r ∷ Mask ∷ rest) h e = ap (λ (b : Bool). is_call_register r && b) (all_stay is_last_argument refl rest) ∙ e
form_more _ os h e = absurd cc

no_implicit : (os : List Operand) → list_all is_implicit (one_more os) ≡ true → ⊥
no_implicit [] e = cc
no_implicit (o ∷ os) e = no_implicit os (and_parts (is_implicit o) (list_all is_implicit (one_more os)) e).1

no_implicit_behind : (b : Bool) (os : List Operand) → (b && list_all is_implicit (one_more os)) ≡ true → ⊥
no_implicit_behind b os e = no_implicit os (and_parts b (list_all is_implicit (one_more os)) e).1

form_back : (op : Op) (os : List Operand) → has_form op (one_more os) ≡ true → has_form op os ≡ true
form_back (Registers op) (Def rd ∷ Use a ∷ Use b ∷ rest) e = absurd (no_implicit rest e)
form_back (Immediate op) (Def rd ∷ Use a ∷ Imm i ∷ rest) e = absurd (no_implicit_behind (is_immediate op i) rest e)
form_back (Immediate op) (Def rd ∷ Object n ∷ Imm i ∷ rest) e = absurd (no_implicit_behind (is_addi op && is_immediate op i) rest e)
form_back (Immediate op) (Def rd ∷ Use a ∷ Part Lower y ∷ rest) e = absurd (no_implicit_behind (is_addi op) rest e)
form_back Lui (Def rd ∷ Imm i ∷ rest) e = absurd (no_implicit rest (and_parts _ (list_all is_implicit (one_more rest)) e).1)
form_back Lui (Def rd ∷ Part Upper y ∷ rest) e = absurd (no_implicit rest e)
form_back (Branch op) (Use a ∷ Use b ∷ Block n ∷ rest) e = absurd (no_implicit rest e)
form_back (Load op) (Def rd ∷ Use base ∷ Imm i ∷ rest) e = absurd (no_implicit_behind (has_12_bits i) rest e)
form_back (Load op) (Def rd ∷ Slot n ∷ Imm i ∷ rest) e = absurd (no_implicit_behind (moves_slot (load_width op) i) rest e)
form_back (Load op) (Def rd ∷ Object n ∷ Imm i ∷ rest) e = absurd (no_implicit_behind (has_12_bits i) rest e)
form_back (Load op) (Def rd ∷ Use base ∷ Part Lower y ∷ rest) e = absurd (no_implicit rest e)
form_back (Store op) (Use rs ∷ Use base ∷ Imm i ∷ rest) e = absurd (no_implicit_behind (has_12_bits i) rest e)
form_back (Store op) (Use rs ∷ Slot n ∷ Imm i ∷ rest) e = absurd (no_implicit_behind (moves_slot (store_width op) i) rest e)
form_back (Store op) (Use rs ∷ Object n ∷ Imm i ∷ rest) e = absurd (no_implicit_behind (has_12_bits i) rest e)
form_back (Store op) (Use rs ∷ Use base ∷ Part Lower y ∷ rest) e = absurd (no_implicit rest e)
form_back Copy (Def rd ∷ Use rs ∷ rest) e = absurd (no_implicit rest e)
form_back PseudoBr (Block n ∷ rest) e = absurd (no_implicit rest e)
form_back PseudoCall (Symbol name ∷ Mask ∷ rest) e = sym (all_stay is_argument refl rest) ∙ e
form_back PseudoRet os e = sym (all_stay is_result refl os) ∙ e
form_back PseudoCallIndirect (Use r ∷ Mask ∷ rest) e = sym (all_stay is_argument refl rest) ∙ e
form_back PseudoTail (Symbol name ∷ rest) e = sym (all_stay is_tail_use refl rest) ∙ e
form_back PseudoTailIndirect (ImplicitUse r ∷ rest) e = ap (λ (b : Bool). is_held_tail_register r && b) (sym (all_stay is_held_tail_use refl rest)) ∙ e
form_back NoReturnCall (Symbol name ∷ Mask ∷ rest) e = sym (all_stay is_last_argument refl rest) ∙ e
form_back NoReturnCallIndirect (ImplicitUse r ∷ Mask ∷ rest) e = ap (λ (b : Bool). is_call_register r && b) (sym (all_stay is_last_argument refl rest)) ∙ e
form_back _ _ e = absurd cc

pub form_shared : (shares : Bool) (i : Instruction) → has_form i.op i.operands ≡ true → has_form i.op (operands_by shares i) ≡ true
form_shared true i e = by_op (hands_over i.op) refl where
  by_op : (b : Bool) → hands_over i.op ≡ b → has_form i.op (cond b (one_more i.operands) i.operands) ≡ true
  by_op true h = form_more i.op i.operands h e
  by_op false h = e
form_shared false i e = elim (without_is i.operands) [
  | inl same ↦ ap (has_form i.op) same ∙ e
  | inr more ↦ form_back i.op (without_shared i.operands) (ap (has_form i.op) (sym more) ∙ e)
]
