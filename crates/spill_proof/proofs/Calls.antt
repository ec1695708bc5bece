-- Other explicit registers make no call of code, and none to something else.
use Rattle.std.proofs.Common.{◌≡◌, ℕ, zero, suc, List, ◌∷◌, map, false, refl, sym, ◌∙◌, [], cond, nat_eq, ap}
use Rattle.rv64_instr.specs.declared.op.Op.{Op}
use Rattle.rv64_instr.specs.declared.op.Op.TheVariants.{Registers, Immediate, Lui, Branch, Load, Store, Copy}
use Rattle.rv64_instr.specs.declared.op.Op.TheVariants.{PseudoBr, PseudoCall, PseudoRet, PseudoCallIndirect}
use Rattle.rv64_instr.specs.declared.op.Op.TheVariants.{PseudoTail, PseudoTailIndirect, NoReturnCall, NoReturnCallIndirect}
use Rattle.rv64_instr.specs.declared.op.ImmediateOp.{ImmediateOp}
use Rattle.rv64_instr.specs.declared.op.ImmediateOp.TheVariants.{Addi}
use Rattle.rv64_instr.specs.declared.operand.Operand.{Operand}
use Rattle.rv64_instr.specs.declared.operand.Operand.TheVariants.{Def, Use, Imm, Slot, Object, Block, Symbol, ImplicitUse}
use Rattle.rv64_instr.specs.Arithmetic.{word}
use Rattle.rv64_instr.specs.Instruction.{Instruction}
use Rattle.rv64_instr.specs.Row.{row_of, row_by, move_row, add_row, immediate_row, object_row, implicit_uses, held_tail, held_gone}
use Rattle.rv64_instr.specs.LocationEffects.{is_call}
use Rattle.spill_code.specs.Rewrite.{renamed_operand, renamed_code}

no_move : (rd rs : ℕ) → is_call (move_row rd rs) ≡ false
no_move rd zero = refl
no_move rd (suc r) = refl

no_add : (rd a n : ℕ) → is_call (add_row rd a n) ≡ false
no_add rd zero n = refl
no_add rd (suc r) zero = refl
no_add rd (suc r) (suc n) = refl

no_immediate : (op : ImmediateOp) (rd a n : ℕ) → is_call (immediate_row op rd a n) ≡ false
no_immediate Addi rd a n = no_add rd a n
no_immediate _ rd a n = refl

no_object : (op : ImmediateOp) (rd n o : ℕ) → is_call (object_row op rd n o) ≡ false
no_object Addi rd n o = refl
no_object _ rd n o = refl

no_held_tail : (xs : List ℕ) → is_call (held_tail xs) ≡ false
no_held_tail [] = refl
no_held_tail (r ∷ xs) = refl

no_held_gone : (xs : List ℕ) → is_call (held_gone xs) ≡ false
no_held_gone [] = refl
no_held_gone (r ∷ xs) = refl

module _ (u d : ℕ → ℕ) where
  uses_kept : (os : List Operand) → implicit_uses (map (renamed_operand u d) os) ≡ implicit_uses os
  uses_kept [] = refl
  uses_kept (ImplicitUse r ∷ os) = ap (λ (z : List ℕ). cond (nat_eq r 2) z (r ∷ z)) (uses_kept os)
  uses_kept (_ ∷ os) = uses_kept os

  by_op : (op : Op) (os : List Operand) → is_call (row_by op (map (renamed_operand u d) os)) ≡ is_call (row_by op os)
  by_op (Registers op) (Def rd ∷ Use a ∷ Use b ∷ rest) = refl
  by_op (Immediate op) (Def rd ∷ Use a ∷ Imm i ∷ rest) = no_immediate op (d rd) (u a) (word i) ∙ sym (no_immediate op rd a (word i))
  by_op (Immediate op) (Def rd ∷ Object n ∷ Imm i ∷ rest) = no_object op (d rd) n (word i) ∙ sym (no_object op rd n (word i))
  by_op Lui (Def rd ∷ Imm i ∷ rest) = refl
  by_op (Branch op) (Use a ∷ Use b ∷ Block target ∷ rest) = refl
  by_op (Load op) (Def rd ∷ Use base ∷ Imm i ∷ rest) = refl
  by_op (Load op) (Def rd ∷ Slot n ∷ rest) = refl
  by_op (Load op) (Def rd ∷ Object n ∷ Imm i ∷ rest) = refl
  by_op (Store op) (Use rs ∷ Use base ∷ Imm i ∷ rest) = refl
  by_op (Store op) (Use rs ∷ Slot n ∷ rest) = refl
  by_op (Store op) (Use rs ∷ Object n ∷ Imm i ∷ rest) = refl
  by_op Copy (Def rd ∷ Use rs ∷ rest) = no_move (d rd) (u rs) ∙ sym (no_move rd rs)
  by_op PseudoBr (Block target ∷ rest) = refl
  by_op PseudoCall (Symbol name ∷ rest) = refl
  by_op PseudoRet os = refl
  by_op PseudoCallIndirect (Use r ∷ rest) = refl
  by_op PseudoTail (Symbol name ∷ rest) = refl
  by_op PseudoTailIndirect os = no_held_tail (implicit_uses (map (renamed_operand u d) os)) ∙ sym (no_held_tail (implicit_uses os))
  by_op NoReturnCall (Symbol name ∷ rest) = refl
  by_op NoReturnCallIndirect os = no_held_gone (implicit_uses (map (renamed_operand u d) os)) ∙ sym (no_held_gone (implicit_uses os))
  by_op _ _ = refl

  pub call_renamed : (i : Instruction) → is_call (row_of (renamed_code u d i)) ≡ is_call (row_of i)
  call_renamed i = by_op i.op i.operands
