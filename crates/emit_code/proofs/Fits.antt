-- Operands that have the form of an opcode make an instruction.
use Rattle.std.proofs.Common.{◌≡◌, ℕ, zero, suc, List, ◌∷◌, ◌⊎◌, inl, inr, Bool, cond, ◌&&◌, ne_eqb, ap, sym, ◌∙◌, arith}
use Rattle.std.specs.Prelude.{IsTrue, ℤ, ◌&&◌}
use Rattle.std.specs.List.{list_all}
use Rattle.std.proofs.lemmas.Bool.{and_parts}
use Rattle.rv64_instr.specs.declared.op.Op.{Op}
use Rattle.rv64_instr.specs.declared.op.Op.TheVariants.{Registers, Immediate, Lui, Branch, Load, Store, Copy}
use Rattle.rv64_instr.specs.declared.op.Op.TheVariants.{PseudoBr, PseudoCall, PseudoRet, PseudoCallIndirect}
use Rattle.rv64_instr.specs.declared.op.Op.TheVariants.{PseudoTail, PseudoTailIndirect, NoReturnCall, NoReturnCallIndirect}
use Rattle.rv64_instr.specs.declared.op.RegisterOp.{RegisterOp}
use Rattle.rv64_instr.specs.declared.op.ImmediateOp.{ImmediateOp}
use Rattle.rv64_instr.specs.declared.op.ImmediateOp.TheVariants.{Addi}
use Rattle.rv64_instr.specs.declared.op.BranchOp.{BranchOp}
use Rattle.rv64_instr.specs.declared.op.LoadOp.{LoadOp}
use Rattle.rv64_instr.specs.declared.op.StoreOp.{StoreOp}
use Rattle.rv64_instr.specs.declared.operand.Operand.{Operand}
use Rattle.rv64_instr.specs.declared.operand.Operand.TheVariants.{Def, Use, Imm, Slot, Object, Part, Block, Symbol, Mask, ImplicitUse}
use Rattle.rv64_instr.specs.declared.symbol.Half.TheVariants.{Upper, Lower}
use Rattle.rv64_instr.specs.Arithmetic.{word}
use Rattle.rv64_instr.specs.Form.{is_addi, is_immediate, is_implicit, fits_registers, fits_immediate, fits_upper, fits_branch, fits_load, fits_store, fits_copy}
use Rattle.rv64_instr.specs.Form.{fits_jump, fits_call, has_form, is_last_argument, is_call_register, is_held_tail_use}
use Rattle.rv64_instr.specs.Form.{is_held_tail_register, fits_held_call, fits_gone, fits_held_gone, fits_tail, fits_held_tail}
use Rattle.rv64_instr.specs.Row.{Unfit, move_row, add_row, immediate_row, object_row, registers_row, number_row, upper_row, branch_row, load_row, store_row}
use Rattle.rv64_instr.specs.Row.{copy_row, jump_row, call_row, row_by, implicit_uses}
use Rattle.rv64_instr.specs.Row.{held_tail, held_gone, held_call_row, tail_row, held_tail_row, gone_row, held_gone_row}
use Rattle.rv64_instr.proofs.Tails.{IsTailRegister, tail_callee, held_callee}

moves_fit : (rd rs : ℕ) → move_row rd rs ≡ Unfit → ⊥
moves_fit rd zero e = cc
moves_fit rd (suc r) e = cc

adds_fit : (rd a n : ℕ) → add_row rd a n ≡ Unfit → ⊥
adds_fit rd zero n e = cc
adds_fit rd (suc r) zero e = cc
adds_fit rd (suc r) (suc n) e = cc

numbers_fit : (op : ImmediateOp) (rd a n : ℕ) → immediate_row op rd a n ≡ Unfit → ⊥
numbers_fit Addi rd a n e = adds_fit rd a n e
numbers_fit _ rd a n e = cc

registers_fit : (op : RegisterOp) (operands : List Operand) → IsTrue (fits_registers operands) → registers_row op operands ≡ Unfit → ⊥
registers_fit op (Def rd ∷ Use a ∷ Use b ∷ rest) form e = cc
registers_fit op operands form e = absurd cc

object_fit : (op : ImmediateOp) (rd n : ℕ) (i : ℤ) (rest : List Operand) → IsTrue (is_addi op && is_immediate op i && list_all is_implicit rest) →
    object_row op rd n (word i) ≡ Unfit → ⊥
object_fit Addi rd n i rest form e = cc
object_fit op rd n i rest form e = absurd cc

immediate_fit : (op : ImmediateOp) (operands : List Operand) → IsTrue (fits_immediate op operands) → number_row op operands ≡ Unfit → ⊥
immediate_fit op (Def rd ∷ Use a ∷ Imm i ∷ rest) form e = numbers_fit op rd a (word i) e
immediate_fit op (Def rd ∷ Object n ∷ Imm i ∷ rest) form e = object_fit op rd n i rest form e
immediate_fit op (Def rd ∷ Use a ∷ Part Lower y ∷ rest) form e = cc
immediate_fit op operands form e = absurd cc

upper_fit : (operands : List Operand) → IsTrue (fits_upper operands) → upper_row operands ≡ Unfit → ⊥
upper_fit (Def rd ∷ Imm i ∷ rest) form e = cc
upper_fit (Def rd ∷ Part Upper y ∷ rest) form e = cc
upper_fit operands form e = absurd cc

branch_fit : (op : BranchOp) (operands : List Operand) → IsTrue (fits_branch operands) → branch_row op operands ≡ Unfit → ⊥
branch_fit op (Use a ∷ Use b ∷ Block n ∷ rest) form e = cc
branch_fit op operands form e = absurd cc

load_fit : (op : LoadOp) (operands : List Operand) → IsTrue (fits_load op operands) → load_row op operands ≡ Unfit → ⊥
load_fit op (Def rd ∷ Use base ∷ Imm i ∷ rest) form e = cc
load_fit op (Def rd ∷ Slot n ∷ Imm i ∷ rest) form e = cc
load_fit op (Def rd ∷ Object n ∷ Imm i ∷ rest) form e = cc
load_fit op (Def rd ∷ Use base ∷ Part Lower y ∷ rest) form e = cc
load_fit op operands form e = absurd cc

store_fit : (op : StoreOp) (operands : List Operand) → IsTrue (fits_store op operands) → store_row op operands ≡ Unfit → ⊥
store_fit op (Use rs ∷ Use base ∷ Imm i ∷ rest) form e = cc
store_fit op (Use rs ∷ Slot n ∷ Imm i ∷ rest) form e = cc
store_fit op (Use rs ∷ Object n ∷ Imm i ∷ rest) form e = cc
store_fit op (Use rs ∷ Use base ∷ Part Lower y ∷ rest) form e = cc
store_fit op operands form e = absurd cc

copy_fit : (operands : List Operand) → IsTrue (fits_copy operands) → copy_row operands ≡ Unfit → ⊥
copy_fit (Def rd ∷ Use rs ∷ rest) form e = moves_fit rd rs e
copy_fit operands form e = absurd cc

jump_fit : (operands : List Operand) → IsTrue (fits_jump operands) → jump_row operands ≡ Unfit → ⊥
jump_fit (Block n ∷ rest) form e = cc
jump_fit operands form e = absurd cc

call_fit : (operands : List Operand) → IsTrue (fits_call operands) → call_row operands ≡ Unfit → ⊥
call_fit (Symbol name ∷ Mask ∷ rest) form e = cc
call_fit operands form e = absurd cc

-- where there is a first implicit use
pub held_fit : (r : ℕ) (rest : List Operand) → (r ≡ 2 → ⊥) → implicit_uses (ImplicitUse r ∷ rest) ≡ r ∷ implicit_uses rest
held_fit r rest ne = ap (λ (b : Bool). cond b (implicit_uses rest) (r ∷ implicit_uses rest)) (ne_eqb r 2 ne)

pub callee_not_two : (r : ℕ) → (r ≡ 6) ⊎ IsTailRegister r → r ≡ 2 → ⊥
callee_not_two r (inl six) e = omega (arith, six, e)
callee_not_two r (inr (inl seven)) e = omega (arith, seven, e)
callee_not_two r (inr (inr (inl is))) e = let a = is.0 in omega (arith, a, e)
callee_not_two r (inr (inr (inr is))) e = let a = is.0 in omega (arith, a, e)

held_call_fit : (operands : List Operand) → IsTrue (fits_held_call operands) → held_call_row operands ≡ Unfit → ⊥
held_call_fit (Use r ∷ Mask ∷ rest) form e = cc
held_call_fit operands form e = absurd cc

tail_fit : (operands : List Operand) → IsTrue (fits_tail operands) → tail_row operands ≡ Unfit → ⊥
tail_fit (Symbol name ∷ rest) form e = cc
tail_fit operands form e = absurd cc

held_tail_fit : (operands : List Operand) → IsTrue (fits_held_tail operands) → held_tail_row operands ≡ Unfit → ⊥
held_tail_fit (ImplicitUse r ∷ rest) form e =
    let callee = tail_callee r (and_parts (is_held_tail_register r) (list_all is_held_tail_use rest) form).0 in
    let bad : held_tail (r ∷ implicit_uses rest) ≡ Unfit = sym (ap held_tail (held_fit r rest (callee_not_two r callee))) ∙ e in cc
held_tail_fit operands form e = absurd cc

gone_fit : (operands : List Operand) → IsTrue (fits_gone operands) → gone_row operands ≡ Unfit → ⊥
gone_fit (Symbol name ∷ Mask ∷ rest) form e = cc
gone_fit operands form e = absurd cc

held_gone_fit : (operands : List Operand) → IsTrue (fits_held_gone operands) → held_gone_row operands ≡ Unfit → ⊥
held_gone_fit (ImplicitUse r ∷ Mask ∷ rest) form e =
    let ne = (held_callee r (and_parts (is_call_register r) (list_all is_last_argument rest) form).0).0 in
    let bad : held_gone (r ∷ implicit_uses rest) ≡ Unfit = sym (ap held_gone (held_fit r (Mask ∷ rest) ne)) ∙ e in cc
held_gone_fit operands form e = absurd cc

pub fit : (op : Op) (operands : List Operand) → IsTrue (has_form op operands) → row_by op operands ≡ Unfit → ⊥
fit (Registers op) operands form e = registers_fit op operands form e
fit (Immediate op) operands form e = immediate_fit op operands form e
fit Lui operands form e = upper_fit operands form e
fit (Branch op) operands form e = branch_fit op operands form e
fit (Load op) operands form e = load_fit op operands form e
fit (Store op) operands form e = store_fit op operands form e
fit Copy operands form e = copy_fit operands form e
fit PseudoBr operands form e = jump_fit operands form e
fit PseudoCall operands form e = call_fit operands form e
fit PseudoRet operands form e = cc
fit PseudoCallIndirect operands form e = held_call_fit operands form e
fit PseudoTail operands form e = tail_fit operands form e
fit PseudoTailIndirect operands form e = held_tail_fit operands form e
fit NoReturnCall operands form e = gone_fit operands form e
fit NoReturnCallIndirect operands form e = held_gone_fit operands form e
