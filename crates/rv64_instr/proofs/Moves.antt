-- The operands of an instruction that copies a register.
use Rattle.std.proofs.Common.{◌≡◌, ℕ, zero, suc, List, ◌∷◌, sym, []}
use Rattle.rv64_instr.specs.declared.op.Op.{Op}
use Rattle.rv64_instr.specs.declared.op.Op.TheVariants.{Registers, Immediate, Lui, Branch, Load, Store, Copy}
use Rattle.rv64_instr.specs.declared.op.Op.TheVariants.{PseudoBr, PseudoCall, PseudoRet, PseudoCallIndirect}
use Rattle.rv64_instr.specs.declared.op.Op.TheVariants.{PseudoTail, PseudoTailIndirect, NoReturnCall, NoReturnCallIndirect}
use Rattle.rv64_instr.specs.declared.op.ImmediateOp.{ImmediateOp}
use Rattle.rv64_instr.specs.declared.op.ImmediateOp.TheVariants.{Addi}
use Rattle.rv64_instr.specs.declared.operand.Operand.{Operand}
use Rattle.rv64_instr.specs.declared.operand.Operand.TheVariants.{Def, Use, Imm, Slot, Object, Block, Symbol}
use Rattle.rv64_instr.specs.Arithmetic.{word}
use Rattle.rv64_instr.specs.Instruction.{Instruction}
use Rattle.rv64_instr.specs.Row.{Moves, row_of}
use Rattle.rv64_instr.specs.Row.{row_by, move_row, add_row, immediate_row, object_row, implicit_uses, held_tail, held_gone}

-- a copy's operands are what it sets and what it reads, and then others
pub record MovesBy (os : List Operand) (rd s : ℕ) : Type 0 where
  pub rest : List Operand
  pub operands : os ≡ Def rd ∷ Use s ∷ rest
  pub real : (m : ℕ) × (s ≡ suc m)

moves_move : (rd a : ℕ) (rest : List Operand) (r s : ℕ) → move_row rd a ≡ Moves r s → MovesBy (Def rd ∷ Use a ∷ rest) r s
moves_move rd zero rest r s e = cc
moves_move rd (suc a) rest r s e =
    let x : rd ≡ r = cc in
    let y : suc a ≡ s = cc in
    record { rest = rest; operands = λ i. Def (x i) ∷ Use (y i) ∷ rest; real = (a, sym y) }

moves_add : (rd a n : ℕ) (rest : List Operand) (r s : ℕ) → add_row rd a n ≡ Moves r s → MovesBy (Def rd ∷ Use a ∷ rest) r s
moves_add rd zero n rest r s e = cc
moves_add rd (suc a) zero rest r s e =
    let x : rd ≡ r = cc in
    let y : suc a ≡ s = cc in
    record { rest = rest; operands = λ i. Def (x i) ∷ Use (y i) ∷ rest; real = (a, sym y) }
moves_add rd (suc a) (suc n) rest r s e = cc

moves_immediate : (op : ImmediateOp) (rd a n : ℕ) (rest : List Operand) (r s : ℕ) → immediate_row op rd a n ≡ Moves r s → MovesBy (Def rd ∷ Use a ∷ rest) r s
moves_immediate Addi rd a n rest r s e = moves_add rd a n rest r s e
moves_immediate _ rd a n rest r s e = cc

moves_object : (op : ImmediateOp) (rd n o r s : ℕ) → object_row op rd n o ≡ Moves r s → ⊥
moves_object Addi rd n o r s e = cc
moves_object _ rd n o r s e = cc

held_tail_moves : (xs : List ℕ) (r s : ℕ) → held_tail xs ≡ Moves r s → ⊥
held_tail_moves [] r s e = cc
held_tail_moves (x ∷ xs) r s e = cc

held_gone_moves : (xs : List ℕ) (r s : ℕ) → held_gone xs ≡ Moves r s → ⊥
held_gone_moves [] r s e = cc
held_gone_moves (x ∷ xs) r s e = cc

moves_op : (op : Op) (os : List Operand) (r s : ℕ) → row_by op os ≡ Moves r s → MovesBy os r s
moves_op (Registers op) (Def rd ∷ Use a ∷ Use b ∷ rest) r s e = cc
moves_op (Immediate op) (Def rd ∷ Use a ∷ Imm i ∷ rest) r s e = moves_immediate op rd a (word i) (Imm i ∷ rest) r s e
moves_op (Immediate op) (Def rd ∷ Object n ∷ Imm i ∷ rest) r s e = absurd (moves_object op rd n (word i) r s e)
moves_op Lui (Def rd ∷ Imm i ∷ rest) r s e = cc
moves_op (Branch op) (Use a ∷ Use b ∷ Block target ∷ rest) r s e = cc
moves_op (Load op) (Def rd ∷ Use base ∷ Imm i ∷ rest) r s e = cc
moves_op (Load op) (Def rd ∷ Slot n ∷ rest) r s e = cc
moves_op (Load op) (Def rd ∷ Object n ∷ Imm i ∷ rest) r s e = cc
moves_op (Store op) (Use rs ∷ Use base ∷ Imm i ∷ rest) r s e = cc
moves_op (Store op) (Use rs ∷ Slot n ∷ rest) r s e = cc
moves_op (Store op) (Use rs ∷ Object n ∷ Imm i ∷ rest) r s e = cc
moves_op Copy (Def rd ∷ Use a ∷ rest) r s e = moves_move rd a rest r s e
moves_op PseudoBr (Block target ∷ rest) r s e = cc
moves_op PseudoCall (Symbol name ∷ rest) r s e = cc
moves_op PseudoRet os r s e = cc
moves_op PseudoCallIndirect (Use q ∷ rest) r s e = cc
moves_op PseudoTail (Symbol name ∷ rest) r s e = cc
moves_op PseudoTailIndirect os r s e = absurd (held_tail_moves (implicit_uses os) r s e)
moves_op NoReturnCall (Symbol name ∷ rest) r s e = cc
moves_op NoReturnCallIndirect os r s e = absurd (held_gone_moves (implicit_uses os) r s e)
moves_op _ _ r s e = cc

pub moves_by : (i : Instruction) (r s : ℕ) → row_of i ≡ Moves r s → MovesBy i.operands r s
moves_by i r s e = moves_op i.op i.operands r s e
