-- Branches and jumps with other targets (RISC-V Unprivileged ISA, RV32I, "Conditional Branches").
use Rattle.std.specs.Prelude.{ℕ, false, List, [], ◌∷◌, None}
use Rattle.std.specs.List.{slice_set}
use Rattle.rv64_instr.specs.declared.op.Op.{Op}
use Rattle.rv64_instr.specs.declared.op.Op.TheVariants.{Registers, Immediate, Lui, Branch, Load, Store, Copy}
use Rattle.rv64_instr.specs.declared.op.Op.TheVariants.{PseudoBr, PseudoCall, PseudoRet, PseudoCallIndirect}
use Rattle.rv64_instr.specs.declared.op.Op.TheVariants.{PseudoTail, PseudoTailIndirect, NoReturnCall, NoReturnCallIndirect}
use Rattle.rv64_instr.specs.declared.operand.Operand.{Operand}
use Rattle.rv64_instr.specs.declared.operand.Operand.TheVariants.{Block as OfBlock}
use Rattle.rv64_instr.specs.Instruction.{Instruction}
use Rattle.rv64_instr.specs.Inverse.{inverse_op}
use Rattle.mir_func.specs.declared.item.Item.{Item}
use Rattle.mir_func.specs.declared.item.ItemKind.{ItemKind}
use Rattle.mir_func.specs.declared.item.ItemKind.TheVariants.{Code, Mark, Phi}
use Rattle.mir_func.specs.declared.location.Loc.{Loc}
use Rattle.mir_func.specs.declared.position.Origin.{Origin}

-- the operands with the block as target: operand 2 of a conditional branch, operand 0 of a jump; other opcodes' are
-- unchanged
abbrev pub aimed : Op → (block : ℕ) → List Operand → List Operand
aimed (Branch op) n operands = slice_set operands 2 (OfBlock n)
aimed PseudoBr n operands = slice_set operands 0 (OfBlock n)
aimed (Registers op) n operands = operands
aimed (Immediate op) n operands = operands
aimed Lui n operands = operands
aimed (Load op) n operands = operands
aimed (Store op) n operands = operands
aimed Copy n operands = operands
aimed PseudoCall n operands = operands
aimed PseudoRet n operands = operands
aimed PseudoCallIndirect n operands = operands
aimed PseudoTail n operands = operands
aimed PseudoTailIndirect n operands = operands
aimed NoReturnCall n operands = operands
aimed NoReturnCallIndirect n operands = operands

-- the branch or jump with the block as target
abbrev pub to_block : (block : ℕ) → Instruction → Instruction
to_block n i = record i { operands = aimed i.op n i.operands }

-- the conditional branch with its condition inverted and the block as target
abbrev pub inverse_to : (block : ℕ) → Instruction → Instruction
inverse_to n i = record i { op = inverse_op i.op; operands = aimed i.op n i.operands }

-- code with its instruction changed; debug items are unchanged
abbrev pub with_code : (Instruction → Instruction) → ItemKind → ItemKind
with_code f (Code i k) = Code (f i) k
with_code f (Mark v m) = Mark v m
with_code f (Phi p k) = Phi p k

-- the item with the block as branch target
abbrev pub sent : (block : ℕ) → Item → Item
sent n x = record x { kind = with_code (to_block n) x.kind }

-- the item with the condition of its branch inverted, and with the block as target
abbrev pub turned : (block : ℕ) → Item → Item
turned n x = record x { kind = with_code (inverse_to n) x.kind }

-- a new `PseudoBR %bb.N` without number, with this origin and debug location
abbrev pub made_jump : (block : ℕ) → Origin → Loc → Item
made_jump n o l = record { kind = Code (record { op = PseudoBr; operands = OfBlock n ∷ []; volatile = false }) None; origin = o; loc = l }
