-- Renaming keeps the form of an instruction.
use Rattle.std.proofs.Common.{◌≡◌, List, [], ◌∷◌, map, Bool, ◌&&◌, refl, ap}
use Rattle.std.specs.Prelude.{pos}
use Rattle.rv64_instr.specs.Arithmetic.{load_width, store_width}
use Rattle.std.specs.List.{list_all}
use Rattle.rv64_instr.specs.declared.op.Op.{Op}
use Rattle.rv64_instr.specs.declared.op.ImmediateOp.{ImmediateOp}
use Rattle.rv64_instr.specs.declared.op.LoadOp.{LoadOp}
use Rattle.rv64_instr.specs.declared.op.StoreOp.{StoreOp}
use Rattle.rv64_instr.specs.declared.op.Op.TheVariants.{Registers, Immediate, Lui, Branch, Load, Store, Copy}
use Rattle.rv64_instr.specs.declared.op.Op.TheVariants.{PseudoBr, PseudoCall, PseudoRet, PseudoCallIndirect}
use Rattle.rv64_instr.specs.declared.op.Op.TheVariants.{PseudoTail, PseudoTailIndirect, NoReturnCall, NoReturnCallIndirect}
use Rattle.rv64_instr.specs.declared.operand.Operand.{Operand}
use Rattle.rv64_instr.specs.declared.operand.Operand.TheVariants.{Def, Use, Imm, Slot, Object, Part, Block as BlockOperand, Symbol, Mask, ImplicitUse}
use Rattle.rv64_instr.specs.declared.symbol.Half.TheVariants.{Upper, Lower}
use Rattle.rv64_instr.specs.Form.{is_implicit, is_argument, is_result, fits_registers, fits_immediate, fits_upper, fits_branch, fits_load, fits_store}
use Rattle.rv64_instr.specs.Form.{fits_copy, fits_jump, fits_call, has_form, is_immediate}
use Rattle.rv64_instr.specs.Form.{is_addi, has_12_bits, moves_slot, is_within, is_tail_use, is_last_argument}
use Rattle.rv64_instr.specs.Form.{is_call_register, is_held_tail_register, is_held_tail_use}
use Rattle.copyprop_block.specs.declared.roots.Root.{Root}
use Rattle.copyprop_block.specs.Roots.{renamed_operand}

module _ (e : List Root) where
  abbrev new : List Operand → List Operand
  new os = map (renamed_operand e) os

  all_same : (p : Operand → Bool) → ((o : Operand) → p (renamed_operand e o) ≡ p o) → (os : List Operand) → list_all p (new os) ≡ list_all p os
  all_same p same [] = refl
  all_same p same (o ∷ os) = let h = same o in let t = all_same p same os in λ i. h i && t i

  implicit_one : (o : Operand) → is_implicit (renamed_operand e o) ≡ is_implicit o
  implicit_one (Use r) = refl
  implicit_one (Def r) = refl
  implicit_one _ = refl

  argument_one : (o : Operand) → is_argument (renamed_operand e o) ≡ is_argument o
  argument_one (Use r) = refl
  argument_one (Def r) = refl
  argument_one _ = refl

  last_one : (o : Operand) → is_last_argument (renamed_operand e o) ≡ is_last_argument o
  last_one (Use r) = refl
  last_one (Def r) = refl
  last_one _ = refl

  result_one : (o : Operand) → is_result (renamed_operand e o) ≡ is_result o
  result_one (Use r) = refl
  result_one (Def r) = refl
  result_one _ = refl

  tail_one : (o : Operand) → is_tail_use (renamed_operand e o) ≡ is_tail_use o
  tail_one (Use r) = refl
  tail_one (Def r) = refl
  tail_one _ = refl

  held_tail_one : (o : Operand) → is_held_tail_use (renamed_operand e o) ≡ is_held_tail_use o
  held_tail_one (Use r) = refl
  held_tail_one (Def r) = refl
  held_tail_one _ = refl

  implicit : (os : List Operand) → list_all is_implicit (new os) ≡ list_all is_implicit os
  implicit = all_same is_implicit implicit_one

  registers : (os : List Operand) → fits_registers (new os) ≡ fits_registers os
  registers (Def rd ∷ Use a ∷ Use b ∷ rest) = implicit rest
  registers _ = refl

  immediate : (op : ImmediateOp) (os : List Operand) → fits_immediate op (new os) ≡ fits_immediate op os
  immediate op (Def rd ∷ Use a ∷ Imm i ∷ rest) = ap (λ (z : Bool). is_immediate op i && z) (implicit rest)
  immediate op (Def rd ∷ Object n ∷ Imm i ∷ rest) = ap (λ (z : Bool). is_addi op && is_immediate op i && z) (implicit rest)
  immediate op (Def rd ∷ Use a ∷ Part Lower y ∷ rest) = ap (λ (z : Bool). is_addi op && z) (implicit rest)
  immediate op _ = refl

  upper : (os : List Operand) → fits_upper (new os) ≡ fits_upper os
  upper (Def rd ∷ Imm i ∷ rest) = ap (λ (z : Bool). is_within (pos 0) (pos 1048575) i && z) (implicit rest)
  upper (Def rd ∷ Part Upper y ∷ rest) = implicit rest
  upper _ = refl

  branch : (os : List Operand) → fits_branch (new os) ≡ fits_branch os
  branch (Use a ∷ Use b ∷ BlockOperand n ∷ rest) = implicit rest
  branch _ = refl

  load : (op : LoadOp) (os : List Operand) → fits_load op (new os) ≡ fits_load op os
  load op (Def rd ∷ Use a ∷ Imm i ∷ rest) = ap (λ (z : Bool). has_12_bits i && z) (implicit rest)
  load op (Def rd ∷ Slot n ∷ Imm i ∷ rest) = ap (λ (z : Bool). moves_slot (load_width op) i && z) (implicit rest)
  load op (Def rd ∷ Object n ∷ Imm i ∷ rest) = ap (λ (z : Bool). has_12_bits i && z) (implicit rest)
  load op (Def rd ∷ Use a ∷ Part Lower y ∷ rest) = implicit rest
  load op _ = refl

  store : (op : StoreOp) (os : List Operand) → fits_store op (new os) ≡ fits_store op os
  store op (Use a ∷ Use b ∷ Imm i ∷ rest) = ap (λ (z : Bool). has_12_bits i && z) (implicit rest)
  store op (Use a ∷ Slot n ∷ Imm i ∷ rest) = ap (λ (z : Bool). moves_slot (store_width op) i && z) (implicit rest)
  store op (Use a ∷ Object n ∷ Imm i ∷ rest) = ap (λ (z : Bool). has_12_bits i && z) (implicit rest)
  store op (Use a ∷ Use b ∷ Part Lower y ∷ rest) = implicit rest
  store op _ = refl

  copy : (os : List Operand) → fits_copy (new os) ≡ fits_copy os
  copy (Def rd ∷ Use a ∷ rest) = implicit rest
  copy _ = refl

  jump : (os : List Operand) → fits_jump (new os) ≡ fits_jump os
  jump (BlockOperand n ∷ rest) = implicit rest
  jump _ = refl

  call : (os : List Operand) → fits_call (new os) ≡ fits_call os
  call (Symbol name ∷ Mask ∷ rest) = all_same is_argument argument_one rest
  call _ = refl

  pub form_renamed : (op : Op) (os : List Operand) → has_form op (new os) ≡ has_form op os
  form_renamed (Registers op) os = registers os
  form_renamed (Immediate op) os = immediate op os
  form_renamed Lui os = upper os
  form_renamed (Branch op) os = branch os
  form_renamed (Load op) os = load op os
  form_renamed (Store op) os = store op os
  form_renamed Copy os = copy os
  form_renamed PseudoBr os = jump os
  form_renamed PseudoCall os = call os
  form_renamed PseudoRet os = all_same is_result result_one os
  form_renamed PseudoCallIndirect (Use r ∷ Mask ∷ rest) = all_same is_argument argument_one rest
  form_renamed PseudoTail (Symbol name ∷ rest) = all_same is_tail_use tail_one rest
  form_renamed PseudoTailIndirect (ImplicitUse r ∷ rest) =
      ap (λ (z : Bool). is_held_tail_register r && z) (all_same is_held_tail_use held_tail_one rest)
  form_renamed NoReturnCall (Symbol name ∷ Mask ∷ rest) = all_same is_last_argument last_one rest
  form_renamed NoReturnCallIndirect (ImplicitUse r ∷ Mask ∷ rest) =
      ap (λ (z : Bool). is_call_register r && z) (all_same is_last_argument last_one rest)
  form_renamed _ _ = refl
