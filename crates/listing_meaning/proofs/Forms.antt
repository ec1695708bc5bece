-- What code has one line, and what has two: a case for each form, with what the operands of a long branch are.
use Rattle.std.proofs.Common.{◌≡◌, ℕ, zero, suc, ℤ, Bool, true, false, ◌&&◌, List, ◌∷◌, refl, ◌⊎◌, inl, inr, []}
use Rattle.std.specs.List.{list_all}
use Rattle.rv64_instr.specs.declared.op.Op.{Op}
use Rattle.rv64_instr.specs.declared.op.Op.TheVariants.{Registers, Immediate, Lui, Branch, Load, Store, Copy}
use Rattle.rv64_instr.specs.declared.op.Op.TheVariants.{PseudoBr, PseudoCall, PseudoRet, PseudoCallIndirect}
use Rattle.rv64_instr.specs.declared.op.Op.TheVariants.{PseudoTail, PseudoTailIndirect, NoReturnCall, NoReturnCallIndirect}
use Rattle.rv64_instr.specs.declared.op.RegisterOp.{RegisterOp}
use Rattle.rv64_instr.specs.declared.op.ImmediateOp.{ImmediateOp}
use Rattle.rv64_instr.specs.declared.op.ImmediateOp.TheVariants.{Addi}
use Rattle.rv64_instr.specs.declared.op.BranchOp.{BranchOp}
use Rattle.rv64_instr.specs.declared.op.LoadOp.{LoadOp}
use Rattle.rv64_instr.specs.declared.op.StoreOp.{StoreOp}
use Rattle.rv64_instr.specs.declared.operand.Operand.{Operand}
use Rattle.rv64_instr.specs.declared.operand.Operand.TheVariants.{Def, Use, Imm, Slot, Object, Part, Block, Symbol, Mask}
use Rattle.rv64_instr.specs.declared.symbol.Half.TheVariants.{Upper, Lower}
use Rattle.rv64_instr.specs.Arithmetic.{word}
use Rattle.rv64_instr.specs.Form.{is_addi, is_immediate, is_implicit, fits_registers, fits_immediate, fits_upper, fits_branch, fits_load, fits_store, fits_copy}
use Rattle.rv64_instr.specs.Form.{fits_jump, fits_call, fits_held_call, fits_gone, has_form, fits_tail}
use Rattle.rv64_instr.specs.Row.{move_row, add_row, immediate_row, object_row, registers_row, number_row, upper_row, branch_row, load_row, store_row}
use Rattle.rv64_instr.specs.Row.{copy_row, jump_row, call_row, row_by, implicit_uses, held_call_row, held_tail, held_gone, tail_row, gone_row}
use Rattle.emit_code.specs.Rule.{Form, OneWord, CallSite, LongBranch, row_form}

pub data FormView (op : Op) (os : List Operand) : Form → Type 0 where
  one : FormView op os OneWord
  call : (name : List ℕ) (rest : List Operand) → os ≡ Symbol name ∷ rest → (op ≡ PseudoCall) ⊎ ((op ≡ PseudoTail) ⊎ (op ≡ NoReturnCall)) →
      FormView op os CallSite
  long : (b : BranchOp) (x y n : ℕ) (rest : List Operand) → op ≡ Branch b → os ≡ Use x ∷ Use y ∷ Block n ∷ rest → list_all is_implicit rest ≡ true →
      FormView op os (LongBranch n)

moves : (op : Op) (os : List Operand) (far : Bool) (rd rs : ℕ) → FormView op os (row_form far (move_row rd rs))
moves op os far rd zero = one
moves op os far rd (suc r) = one

adds : (op : Op) (os : List Operand) (far : Bool) (rd a n : ℕ) → FormView op os (row_form far (add_row rd a n))
adds op os far rd zero n = one
adds op os far rd (suc r) zero = one
adds op os far rd (suc r) (suc n) = one

numbers : (o : Op) (os : List Operand) (far : Bool) (op : ImmediateOp) (rd a n : ℕ) → FormView o os (row_form far (immediate_row op rd a n))
numbers o os far Addi rd a n = adds o os far rd a n
numbers o os far _ rd a n = one

objects : (o : Op) (os : List Operand) (far : Bool) (op : ImmediateOp) (rd n : ℕ) (i : ℤ) (rest : List Operand) →
    (is_addi op && is_immediate op i && list_all is_implicit rest) ≡ true → FormView o os (row_form far (object_row op rd n (word i)))
objects o os far Addi rd n i rest form = one
objects o os far op rd n i rest form = absurd cc

registers : (far : Bool) (op : RegisterOp) (os : List Operand) → fits_registers os ≡ true → FormView (Registers op) os (row_form far (registers_row op os))
registers far op (Def rd ∷ Use a ∷ Use b ∷ rest) form = one
registers far op os form = absurd cc

immediate : (far : Bool) (op : ImmediateOp) (os : List Operand) → fits_immediate op os ≡ true → FormView (Immediate op) os (row_form far (number_row op os))
immediate far op (Def rd ∷ Use a ∷ Imm i ∷ rest) form = numbers (Immediate op) (Def rd ∷ Use a ∷ Imm i ∷ rest) far op rd a (word i)
immediate far op (Def rd ∷ Object n ∷ Imm i ∷ rest) form = objects (Immediate op) (Def rd ∷ Object n ∷ Imm i ∷ rest) far op rd n i rest form
immediate far op (Def rd ∷ Use a ∷ Part Lower y ∷ rest) form = one
immediate far op os form = absurd cc

upper : (far : Bool) (os : List Operand) → fits_upper os ≡ true → FormView Lui os (row_form far (upper_row os))
upper far (Def rd ∷ Imm i ∷ rest) form = one
upper far (Def rd ∷ Part Upper y ∷ rest) form = one
upper far os form = absurd cc

branch : (far : Bool) (op : BranchOp) (os : List Operand) → fits_branch os ≡ true → FormView (Branch op) os (row_form far (branch_row op os))
branch true op (Use a ∷ Use b ∷ Block n ∷ rest) form = long op a b n rest refl refl form
branch false op (Use a ∷ Use b ∷ Block n ∷ rest) form = one
branch far op os form = absurd cc

load : (far : Bool) (op : LoadOp) (os : List Operand) → fits_load op os ≡ true → FormView (Load op) os (row_form far (load_row op os))
load far op (Def rd ∷ Use base ∷ Imm i ∷ rest) form = one
load far op (Def rd ∷ Slot n ∷ Imm i ∷ rest) form = one
load far op (Def rd ∷ Object n ∷ Imm i ∷ rest) form = one
load far op (Def rd ∷ Use base ∷ Part Lower y ∷ rest) form = one
load far op os form = absurd cc

store : (far : Bool) (op : StoreOp) (os : List Operand) → fits_store op os ≡ true → FormView (Store op) os (row_form far (store_row op os))
store far op (Use rs ∷ Use base ∷ Imm i ∷ rest) form = one
store far op (Use rs ∷ Slot n ∷ Imm i ∷ rest) form = one
store far op (Use rs ∷ Object n ∷ Imm i ∷ rest) form = one
store far op (Use rs ∷ Use base ∷ Part Lower y ∷ rest) form = one
store far op os form = absurd cc

copy : (far : Bool) (os : List Operand) → fits_copy os ≡ true → FormView Copy os (row_form far (copy_row os))
copy far (Def rd ∷ Use rs ∷ rest) form = moves Copy (Def rd ∷ Use rs ∷ rest) far rd rs
copy far os form = absurd cc

jump : (far : Bool) (os : List Operand) → fits_jump os ≡ true → FormView PseudoBr os (row_form far (jump_row os))
jump far (Block n ∷ rest) form = one
jump far os form = absurd cc

calls : (far : Bool) (os : List Operand) → fits_call os ≡ true → FormView PseudoCall os (row_form far (call_row os))
calls far (Symbol name ∷ Mask ∷ rest) form = call name (Mask ∷ rest) refl (inl refl)
calls far os form = absurd cc

tails : (far : Bool) (os : List Operand) → fits_tail os ≡ true → FormView PseudoTail os (row_form far (tail_row os))
tails far (Symbol name ∷ rest) form = call name rest refl (inr (inl refl))
tails far os form = absurd cc

gone : (far : Bool) (os : List Operand) → fits_gone os ≡ true → FormView NoReturnCall os (row_form far (gone_row os))
gone far (Symbol name ∷ Mask ∷ rest) form = call name (Mask ∷ rest) refl (inr (inr refl))
gone far os form = absurd cc

held_call_view : (far : Bool) (os : List Operand) → fits_held_call os ≡ true → FormView PseudoCallIndirect os (row_form far (held_call_row os))
held_call_view far (Use r ∷ Mask ∷ rest) form = one
held_call_view far os form = absurd cc

held_tail_view : (op : Op) (os : List Operand) (far : Bool) (xs : List ℕ) → FormView op os (row_form far (held_tail xs))
held_tail_view op os far [] = one
held_tail_view op os far (r ∷ xs) = one

held_gone_view : (op : Op) (os : List Operand) (far : Bool) (xs : List ℕ) → FormView op os (row_form far (held_gone xs))
held_gone_view op os far [] = one
held_gone_view op os far (r ∷ xs) = one

-- the form of code that has the form of its opcode
pub viewed : (far : Bool) (op : Op) (os : List Operand) → has_form op os ≡ true → FormView op os (row_form far (row_by op os))
viewed far (Registers op) os form = registers far op os form
viewed far (Immediate op) os form = immediate far op os form
viewed far Lui os form = upper far os form
viewed far (Branch op) os form = branch far op os form
viewed far (Load op) os form = load far op os form
viewed far (Store op) os form = store far op os form
viewed far Copy os form = copy far os form
viewed far PseudoBr os form = jump far os form
viewed far PseudoCall os form = calls far os form
viewed far PseudoRet os form = one
viewed far PseudoCallIndirect os form = held_call_view far os form
viewed far PseudoTail os form = tails far os form
viewed far PseudoTailIndirect os form = held_tail_view PseudoTailIndirect os far (implicit_uses os)
viewed far NoReturnCall os form = gone far os form
viewed far NoReturnCallIndirect os form = held_gone_view NoReturnCallIndirect os far (implicit_uses os)
