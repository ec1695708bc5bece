-- What a call passes and a return reads are the implicit uses of the operands.
use Rattle.std.proofs.Common.{◌≡◌, ℕ, zero, suc, List, ◌∷◌, refl, ◌++◌, []}
use Rattle.mir_func.specs.rv64_instr.declared.op.Op.{Op}
use Rattle.mir_func.specs.rv64_instr.declared.op.Op.TheVariants.{Registers, Immediate, Lui, Branch, Load, Store, Copy}
use Rattle.mir_func.specs.rv64_instr.declared.op.Op.TheVariants.{PseudoBr, PseudoCall, PseudoRet, PseudoCallIndirect}
use Rattle.mir_func.specs.rv64_instr.declared.op.Op.TheVariants.{PseudoTail, PseudoTailIndirect, NoReturnCall, NoReturnCallIndirect}
use Rattle.mir_func.specs.rv64_instr.declared.op.ImmediateOp.{ImmediateOp}
use Rattle.mir_func.specs.rv64_instr.declared.op.ImmediateOp.TheVariants.{Addi}
use Rattle.mir_func.specs.rv64_instr.declared.operand.Operand.{Operand}
use Rattle.mir_func.specs.rv64_instr.declared.operand.Operand.TheVariants.{Def, Use, Imm, Slot, Object, Block, Symbol}
use Rattle.mir_func.specs.rv64_instr.Instruction.{Instruction}
use Rattle.mir_func.specs.rv64_instr.Arithmetic.{word}
use Rattle.mir_func.specs.rv64_instr.Row.{Row, Calls, Returns, row_by, row_of, immediate_row, object_row, move_row, implicit_uses, held_tail, held_gone}
use Rattle.mir_func.specs.rv64_instr.DefsAndUses.{way_reads}

abbrev pub AreImplicit : List Operand → Row → Type 0
AreImplicit operands (Calls call) = call.args ≡ implicit_uses operands
AreImplicit operands (Returns ending) = way_reads ending.way ++ ending.values ≡ implicit_uses operands
AreImplicit operands _ = Unit {0}

immediate : (operands : List Operand) (op : ImmediateOp) (rd a n : ℕ) → AreImplicit operands (immediate_row op rd a n)
immediate operands Addi rd zero n = tt
immediate operands Addi rd (suc r) zero = tt
immediate operands op rd a n = tt

copies : (operands : List Operand) (rd rs : ℕ) → AreImplicit operands (move_row rd rs)
copies operands rd zero = tt
copies operands rd (suc r) = tt

held_tail_reads : (operands : List Operand) (xs : List ℕ) → xs ≡ implicit_uses operands → AreImplicit operands (held_tail xs)
held_tail_reads operands [] e = tt
held_tail_reads operands (r ∷ xs) e = e

held_gone_reads : (operands : List Operand) (xs : List ℕ) → xs ≡ implicit_uses operands → AreImplicit operands (held_gone xs)
held_gone_reads operands [] e = tt
held_gone_reads operands (r ∷ xs) e = e

by_op : (op : Op) (operands : List Operand) → AreImplicit operands (row_by op operands)
by_op (Registers op) (Def rd ∷ Use a ∷ Use b ∷ rest) = tt
by_op (Immediate op) (Def rd ∷ Use a ∷ Imm i ∷ rest) = immediate (Def rd ∷ Use a ∷ Imm i ∷ rest) op rd a (word i)
by_op (Immediate op) (Def rd ∷ Object n ∷ Imm i ∷ rest) = by_object op where
  by_object : (op : ImmediateOp) → AreImplicit (Def rd ∷ Object n ∷ Imm i ∷ rest) (object_row op rd n (word i))
  by_object Addi = tt
  by_object _ = tt
by_op Lui (Def rd ∷ Imm i ∷ rest) = tt
by_op (Branch op) (Use a ∷ Use b ∷ Block target ∷ rest) = tt
by_op (Load op) (Def rd ∷ Use base ∷ Imm i ∷ rest) = tt
by_op (Load op) (Def rd ∷ Slot n ∷ rest) = tt
by_op (Load op) (Def rd ∷ Object n ∷ Imm i ∷ rest) = tt
by_op (Store op) (Use rs ∷ Use base ∷ Imm i ∷ rest) = tt
by_op (Store op) (Use rs ∷ Slot n ∷ rest) = tt
by_op (Store op) (Use rs ∷ Object n ∷ Imm i ∷ rest) = tt
by_op Copy (Def rd ∷ Use rs ∷ rest) = copies (Def rd ∷ Use rs ∷ rest) rd rs
by_op PseudoBr (Block target ∷ rest) = tt
by_op PseudoCall (Symbol name ∷ rest) = refl
by_op PseudoRet rest = refl
by_op PseudoCallIndirect (Use r ∷ rest) = refl
by_op PseudoTail (Symbol name ∷ rest) = refl
by_op PseudoTailIndirect rest = held_tail_reads rest (implicit_uses rest) refl
by_op NoReturnCall (Symbol name ∷ rest) = refl
by_op NoReturnCallIndirect rest = held_gone_reads rest (implicit_uses rest) refl
by_op _ _ = tt

pub implicit : (i : Instruction) → AreImplicit i.operands (row_of i)
implicit i = by_op i.op i.operands
