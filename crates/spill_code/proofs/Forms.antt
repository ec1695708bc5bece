-- Code with other registers has the form of its opcode, as it had before: no form looks at an explicit register's number.
use Rattle.std.proofs.Common.{◌≡◌, ℕ, List, [], ◌∷◌, map, Bool, ◌&&◌, refl, ap}
use Rattle.std.specs.List.{list_all}
use Rattle.std.specs.Prelude.{pos}
use Rattle.mir_func.specs.rv64_instr.declared.op.Op.{Op}
use Rattle.mir_func.specs.rv64_instr.declared.op.Op.TheVariants.{Registers, Immediate, Lui, Branch, Load, Store, Copy}
use Rattle.mir_func.specs.rv64_instr.declared.op.Op.TheVariants.{PseudoBr, PseudoCall, PseudoRet, PseudoCallIndirect}
use Rattle.mir_func.specs.rv64_instr.declared.op.Op.TheVariants.{PseudoTail, PseudoTailIndirect, NoReturnCall, NoReturnCallIndirect}
use Rattle.mir_func.specs.rv64_instr.declared.operand.Operand.{Operand}
use Rattle.mir_func.specs.rv64_instr.declared.operand.Operand.TheVariants.{Def, Use, Imm, Slot, Object, Part, Block, Symbol, Mask, ImplicitUse}
use Rattle.mir_func.specs.rv64_instr.declared.symbol.Half.TheVariants.{Upper, Lower}
use Rattle.mir_func.specs.rv64_instr.Arithmetic.{load_width, store_width}
use Rattle.mir_func.specs.rv64_instr.Form.{is_within, has_12_bits, is_immediate, is_addi, moves_slot}
use Rattle.mir_func.specs.rv64_instr.Form.{is_implicit, is_argument, is_result, has_form, is_tail_use, is_last_argument}
use Rattle.mir_func.specs.rv64_instr.Form.{is_call_register, is_held_tail_register, is_held_tail_use}
use Rattle.spill_code.specs.Rewrite.{renamed_operand}

module _ (at_use at_def : ℕ → ℕ) where
  abbrev others : List Operand → List Operand
  others os = map (renamed_operand at_use at_def) os

  all_same : (p : Operand → Bool) → ((o : Operand) → p (renamed_operand at_use at_def o) ≡ p o) → (os : List Operand) →
      list_all p (others os) ≡ list_all p os
  all_same p same [] = refl
  all_same p same (o ∷ os) = let now = same o in let rest = all_same p same os in λ i. now i && rest i

  implicit_same : (o : Operand) → is_implicit (renamed_operand at_use at_def o) ≡ is_implicit o
  implicit_same (Def r) = refl
  implicit_same (Use r) = refl
  implicit_same _ = refl

  argument_same : (o : Operand) → is_argument (renamed_operand at_use at_def o) ≡ is_argument o
  argument_same (Def r) = refl
  argument_same (Use r) = refl
  argument_same _ = refl

  last_same : (o : Operand) → is_last_argument (renamed_operand at_use at_def o) ≡ is_last_argument o
  last_same (Def r) = refl
  last_same (Use r) = refl
  last_same _ = refl

  result_same : (o : Operand) → is_result (renamed_operand at_use at_def o) ≡ is_result o
  result_same (Def r) = refl
  result_same (Use r) = refl
  result_same _ = refl

  tail_same : (o : Operand) → is_tail_use (renamed_operand at_use at_def o) ≡ is_tail_use o
  tail_same (Def r) = refl
  tail_same (Use r) = refl
  tail_same _ = refl

  held_tail_same : (o : Operand) → is_held_tail_use (renamed_operand at_use at_def o) ≡ is_held_tail_use o
  held_tail_same (Def r) = refl
  held_tail_same (Use r) = refl
  held_tail_same _ = refl

  rest_same : (os : List Operand) → list_all is_implicit (others os) ≡ list_all is_implicit os
  rest_same os = all_same is_implicit implicit_same os

  behind : (b : Bool) (os : List Operand) → (b && list_all is_implicit (others os)) ≡ (b && list_all is_implicit os)
  behind b os = ap (λ (z : Bool). b && z) (rest_same os)

  pub form_same : (op : Op) (os : List Operand) → has_form op (others os) ≡ has_form op os
  form_same (Registers op) (Def rd ∷ Use a ∷ Use b ∷ rest) = rest_same rest
  form_same (Immediate op) (Def rd ∷ Use a ∷ Imm i ∷ rest) = behind (is_immediate op i) rest
  form_same (Immediate op) (Def rd ∷ Object n ∷ Imm i ∷ rest) = behind (is_addi op && is_immediate op i) rest
  form_same (Immediate op) (Def rd ∷ Use a ∷ Part Lower y ∷ rest) = behind (is_addi op) rest
  form_same Lui (Def rd ∷ Imm i ∷ rest) = behind (is_within (pos 0) (pos 1048575) i) rest
  form_same Lui (Def rd ∷ Part Upper y ∷ rest) = rest_same rest
  form_same (Branch op) (Use a ∷ Use b ∷ Block n ∷ rest) = rest_same rest
  form_same (Load op) (Def rd ∷ Use a ∷ Imm i ∷ rest) = behind (has_12_bits i) rest
  form_same (Load op) (Def rd ∷ Slot n ∷ Imm i ∷ rest) = behind (moves_slot (load_width op) i) rest
  form_same (Load op) (Def rd ∷ Object n ∷ Imm i ∷ rest) = behind (has_12_bits i) rest
  form_same (Load op) (Def rd ∷ Use a ∷ Part Lower y ∷ rest) = rest_same rest
  form_same (Store op) (Use a ∷ Use b ∷ Imm i ∷ rest) = behind (has_12_bits i) rest
  form_same (Store op) (Use a ∷ Slot n ∷ Imm i ∷ rest) = behind (moves_slot (store_width op) i) rest
  form_same (Store op) (Use a ∷ Object n ∷ Imm i ∷ rest) = behind (has_12_bits i) rest
  form_same (Store op) (Use a ∷ Use b ∷ Part Lower y ∷ rest) = rest_same rest
  form_same Copy (Def rd ∷ Use rs ∷ rest) = rest_same rest
  form_same PseudoBr (Block n ∷ rest) = rest_same rest
  form_same PseudoCall (Symbol name ∷ Mask ∷ rest) = all_same is_argument argument_same rest
  form_same PseudoRet os = all_same is_result result_same os
  form_same PseudoCallIndirect (Use r ∷ Mask ∷ rest) = all_same is_argument argument_same rest
  form_same PseudoTail (Symbol name ∷ rest) = all_same is_tail_use tail_same rest
  form_same PseudoTailIndirect (ImplicitUse r ∷ rest) =
      ap (λ (z : Bool). is_held_tail_register r && z) (all_same is_held_tail_use held_tail_same rest)
  form_same NoReturnCall (Symbol name ∷ Mask ∷ rest) = all_same is_last_argument last_same rest
  form_same NoReturnCallIndirect (ImplicitUse r ∷ Mask ∷ rest) =
      ap (λ (z : Bool). is_call_register r && z) (all_same is_last_argument last_same rest)
  form_same _ _ = refl
