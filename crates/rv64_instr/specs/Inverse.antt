-- The inverse of a conditional branch: taken exactly when the branch isn't (RISC-V Unprivileged ISA, "Conditional Branches").
use Rattle.rv64_instr.specs.declared.op.Op.{Op}
use Rattle.rv64_instr.specs.declared.op.Op.TheVariants.{Registers, Immediate, Lui, Branch, Load, Store, Copy}
use Rattle.rv64_instr.specs.declared.op.Op.TheVariants.{PseudoBr, PseudoCall, PseudoRet, PseudoCallIndirect}
use Rattle.rv64_instr.specs.declared.op.Op.TheVariants.{PseudoTail, PseudoTailIndirect, NoReturnCall, NoReturnCallIndirect}
use Rattle.rv64_instr.specs.declared.op.BranchOp.{BranchOp}
use Rattle.rv64_instr.specs.declared.op.BranchOp.TheVariants.{Beq, Bne, Blt, Bge, Bltu, Bgeu}

-- the inverse condition: the branch is taken exactly when the other isn't
abbrev pub inverse : BranchOp → BranchOp
inverse Beq = Bne
inverse Bne = Beq
inverse Blt = Bge
inverse Bge = Blt
inverse Bltu = Bgeu
inverse Bgeu = Bltu

-- the opcode with its condition inverted; opcodes other than conditional branches are unchanged
abbrev pub inverse_op : Op → Op
inverse_op (Branch op) = Branch (inverse op)
inverse_op (Registers op) = Registers op
inverse_op (Immediate op) = Immediate op
inverse_op Lui = Lui
inverse_op (Load op) = Load op
inverse_op (Store op) = Store op
inverse_op Copy = Copy
inverse_op PseudoBr = PseudoBr
inverse_op PseudoCall = PseudoCall
inverse_op PseudoRet = PseudoRet
inverse_op PseudoCallIndirect = PseudoCallIndirect
inverse_op PseudoTail = PseudoTail
inverse_op PseudoTailIndirect = PseudoTailIndirect
inverse_op NoReturnCall = NoReturnCall
inverse_op NoReturnCallIndirect = NoReturnCallIndirect
