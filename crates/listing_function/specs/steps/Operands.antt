-- Operands of listed code.
use Rattle.std.specs.Prelude.{IsTrue, List, ◌∷◌, Option, Some, None}
use Rattle.rv64_instr.specs.declared.op.Op.{Op}
use Rattle.rv64_instr.specs.declared.op.BranchOp.{BranchOp}
use Rattle.rv64_instr.specs.declared.op.Op.TheVariants.{Registers, Immediate, Lui, Branch as OfBranch, Load, Store, Copy}
use Rattle.rv64_instr.specs.declared.op.Op.TheVariants.{PseudoBr, PseudoCall, PseudoRet, PseudoCallIndirect}
use Rattle.rv64_instr.specs.declared.op.Op.TheVariants.{PseudoTail, PseudoTailIndirect, NoReturnCall, NoReturnCallIndirect}
use Rattle.rv64_instr.specs.declared.operand.Operand.{Operand}
use Rattle.rv64_instr.specs.declared.operand.Operand.TheVariants.{Use, Imm, Object, Block}
use Rattle.rv64_instr.specs.Form.{has_12_bits}
use Rattle.listing_function.specs.declared.branch.Branch.{Branch}

-- the number that is added to a stack object's address fits in 12 bits
abbrev pub IsSmall : List Operand → Type 0
IsSmall (r ∷ Object n ∷ Imm i ∷ rest) = IsTrue (has_12_bits i)
IsSmall _ = Unit {0}

-- the operation, the compared registers and the target of a conditional branch
abbrev pub compared : BranchOp → List Operand → Option Branch
compared op (Use a ∷ Use b ∷ Block n ∷ rest) = Some (record { op = op; first = a; second = b; target = n })
compared op _ = None

abbrev pub branch_by : Op → List Operand → Option Branch
branch_by (OfBranch op) operands = compared op operands
branch_by (Registers op) operands = None
branch_by (Immediate op) operands = None
branch_by Lui operands = None
branch_by (Load op) operands = None
branch_by (Store op) operands = None
branch_by Copy operands = None
branch_by PseudoBr operands = None
branch_by PseudoCall operands = None
branch_by PseudoRet operands = None
branch_by PseudoCallIndirect operands = None
branch_by PseudoTail operands = None
branch_by PseudoTailIndirect operands = None
branch_by NoReturnCall operands = None
branch_by NoReturnCallIndirect operands = None
