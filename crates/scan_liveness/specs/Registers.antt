-- The greatest number of the registers that code names.
use Rattle.std.specs.Prelude.{ℕ, max, List, [], ◌∷◌}
use Rattle.rv64_instr.specs.declared.operand.Operand.{Operand}
use Rattle.rv64_instr.specs.declared.operand.Operand.TheVariants.{Def, Use, ImplicitDef, ImplicitUse, Imm, Slot, Object, Part, Outgoing, Block as OfBlock}
use Rattle.rv64_instr.specs.declared.operand.Operand.TheVariants.{GlobalRegisters}
use Rattle.rv64_instr.specs.declared.operand.Operand.TheVariants.{Symbol, Mask}
use Rattle.mir_func.specs.declared.block.Block.{Block}
use Rattle.mir_func.specs.declared.item.Item.{Item}
use Rattle.mir_func.specs.declared.item.ItemKind.{ItemKind}
use Rattle.mir_func.specs.declared.item.ItemKind.TheVariants.{Code, Mark, Phi}

-- the number of an operand's register, or 0 if it is none
abbrev pub register_of : Operand → ℕ
register_of (Def r) = r
register_of (Use r) = r
register_of (ImplicitDef r) = r
register_of (ImplicitUse r) = r
register_of (Imm i) = 0
register_of (Slot n) = 0
register_of (Object n) = 0
register_of (Part half y) = 0
register_of (Outgoing n) = 0
register_of GlobalRegisters = 0
register_of (OfBlock n) = 0
register_of (Symbol name) = 0
register_of Mask = 0

-- the greatest of them
abbrev pub greatest_operand : List Operand → ℕ
greatest_operand [] = 0
greatest_operand (o ∷ os) = max (register_of o) (greatest_operand os)

abbrev pub greatest_of : ItemKind → ℕ
greatest_of (Code i k) = greatest_operand i.operands
greatest_of (Mark v m) = 0
greatest_of (Phi p k) = 0

abbrev pub greatest_in : List Item → ℕ
greatest_in [] = 0
greatest_in (i ∷ is) = max (greatest_of i.kind) (greatest_in is)

abbrev pub greatest_register : List Block → ℕ
greatest_register [] = 0
greatest_register (b ∷ bs) = max (greatest_in b.items) (greatest_register bs)
