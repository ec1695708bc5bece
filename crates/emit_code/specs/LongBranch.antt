-- The instructions of a long conditional branch: the inverted branch over the next word, and a jump to the target.
use Rattle.std.specs.Prelude.{ℕ, pos, false, List, [], ◌∷◌}
use Rattle.rv64_instr.specs.declared.op.Op.TheVariants.{PseudoBr}
use Rattle.rv64_instr.specs.declared.operand.Operand.{Operand}
use Rattle.rv64_instr.specs.declared.operand.Operand.TheVariants.{Imm, Block}
use Rattle.rv64_instr.specs.Instruction.{Instruction}
use Rattle.rv64_instr.specs.Inverse.{inverse_op}

-- the inverted branch to the same target
abbrev pub inverted_branch : Instruction → Instruction
inverted_branch i = record i { op = inverse_op i.op }

-- the operands with an offset in bytes for the branch target
abbrev pub over_bytes : ℕ → List Operand → List Operand
over_bytes n (a ∷ b ∷ target ∷ rest) = a ∷ b ∷ Imm (pos n) ∷ rest
over_bytes n operands = operands

-- a listing's first instruction of a long branch: the inverted branch with the target `+8` and with the same implicit operands
abbrev pub skip_of : Instruction → Instruction
skip_of i = record { op = inverse_op i.op; operands = over_bytes 8 i.operands; volatile = false }

-- `PseudoBR %bb.N`
abbrev pub jump_to : (block : ℕ) → Instruction
jump_to n = record { op = PseudoBr; operands = Block n ∷ []; volatile = false }
