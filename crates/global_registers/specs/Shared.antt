-- Calls and ends that read the registers that callers and callees may share as global variables.
use Rattle.std.specs.Prelude.{◌≡◌, List, [], ◌∷◌, ◌++◌, map, Bool, true, false, cond}
use Rattle.rv64_instr.specs.declared.op.Op.{Op}
use Rattle.rv64_instr.specs.declared.op.Op.TheVariants.{PseudoCall, PseudoRet, PseudoCallIndirect}
use Rattle.rv64_instr.specs.declared.op.Op.TheVariants.{PseudoTail, PseudoTailIndirect, NoReturnCall, NoReturnCallIndirect}
use Rattle.rv64_instr.specs.declared.operand.Operand.{Operand}
use Rattle.rv64_instr.specs.declared.operand.Operand.TheVariants.{GlobalRegisters}
use Rattle.rv64_instr.specs.Instruction.{Instruction}
use Rattle.mir_func.specs.declared.block.Block.{Block}
use Rattle.mir_func.specs.declared.item.Item.{Item}
use Rattle.mir_func.specs.declared.item.ItemKind.{ItemKind}
use Rattle.mir_func.specs.declared.item.ItemKind.TheVariants.{Code, Mark, Phi}
use Rattle.mir_func.specs.Function.{Function}
use Rattle.pass_trait.specs.Code.{CodeRule}

-- an opcode of a call, a call in tail position or a return
abbrev pub hands_over : Op → Bool
hands_over PseudoCall = true
hands_over PseudoRet = true
hands_over PseudoCallIndirect = true
hands_over PseudoTail = true
hands_over PseudoTailIndirect = true
hands_over NoReturnCall = true
hands_over NoReturnCallIndirect = true
hands_over _ = false

-- the operand says that global registers are read
abbrev pub is_shared : Operand → Bool
is_shared GlobalRegisters = true
is_shared _ = false

-- the operands without the last one, if it says so
abbrev pub without_shared : List Operand → List Operand
without_shared [] = []
without_shared (o ∷ []) = cond (is_shared o) [] (o ∷ [])
without_shared (o ∷ p ∷ os) = o ∷ without_shared (p ∷ os)

-- the operands of a call, a call in tail position or a return with one more that says so, or without it; other code is unchanged by the first
abbrev pub operands_by : (shares : Bool) → Instruction → List Operand
operands_by true i = cond (hands_over i.op) (i.operands ++ GlobalRegisters ∷ []) i.operands
operands_by false i = without_shared i.operands

abbrev pub code_by : (shares : Bool) → Instruction → Instruction
code_by shares i = record i { operands = operands_by shares i }

-- the same for an item, for each item of a block, and for each block of a function
abbrev pub kind_by : (shares : Bool) → ItemKind → ItemKind
kind_by shares (Code i k) = Code (code_by shares i) k
kind_by shares (Mark v m) = Mark v m
kind_by shares (Phi p k) = Phi p k

abbrev pub item_by : (shares : Bool) → Item → Item
item_by shares i = record { kind = kind_by shares i.kind; origin = i.origin; loc = i.loc }

abbrev pub block_by : (shares : Bool) → Block → Block
block_by shares b = record { id = b.id; items = map (item_by shares) b.items; source_end = b.source_end }

abbrev pub function_by : (shares : Bool) → Function → Function
function_by shares f = record f { blocks = map (block_by shares) f.blocks }

-- the code rule: calls and ends read the global registers from here on, or no longer do
abbrev pub IsSharedBy : (shares : Bool) → CodeRule
IsSharedBy shares f g = g ≡ function_by shares f
