-- The items of a body, rewritten once it is known which stack entries are stack objects (`ids`) and which are spill slots.
use Rattle.std.specs.Prelude.{ℕ, ◌+◌, Bool, true, false, nat_le, if◌then◌else◌, List, map, Option, Some, None}
use Rattle.std.specs.List.{list_all}
use Rattle.std.specs.Option.{option_map_or}
use Rattle.rv64_instr.specs.Row.{Base, PointedBy, ObjectAt, BesidePart}
use Rattle.rv64_instr.specs.declared.operand.Operand.{Operand}
use Rattle.rv64_instr.specs.declared.operand.Operand.TheVariants.{Def, Use, ImplicitDef, ImplicitUse, Imm, Slot, Object, Part, Block as OfBlock, Symbol, Mask}
use Rattle.rv64_instr.specs.declared.operand.Operand.TheVariants.{Outgoing, GlobalRegisters}
use Rattle.rv64_instr.specs.declared.place.Place.{Place}
use Rattle.rv64_instr.specs.declared.place.Place.TheVariants as places
use Rattle.rv64_instr.specs.Form.{has_form}
use Rattle.rv64_instr.specs.Instruction.{Instruction}
use Rattle.rv64_instr.specs.Row.{Row, row_of}
use Rattle.rv64_instr.specs.View.{Access, NoAccess, SlotAccess, MemoryAccess, ObjectAddress, access_of}
use Rattle.mir_func.specs.declared.block.Block.{Block}
use Rattle.mir_func.specs.declared.item.Item.{Item}
use Rattle.mir_func.specs.declared.item.ItemKind.{ItemKind}
use Rattle.mir_func.specs.declared.item.ItemKind.TheVariants.{Code, Mark, Phi}
use Rattle.mir_func.specs.declared.object.Object as func
use Rattle.mir_func.specs.Objects.{object_of}
use Rattle.read_body.specs.FirstUseOrder.{is_met}

-- an operand: a spill slot becomes a stack object if its entry is one
abbrev pub operand_as : List ℕ → Operand → Operand
operand_as ids (Slot n) = if is_met n ids then Object n else Slot n
operand_as ids (Def r) = Def r
operand_as ids (Use r) = Use r
operand_as ids (ImplicitDef r) = ImplicitDef r
operand_as ids (ImplicitUse r) = ImplicitUse r
operand_as ids (Imm i) = Imm i
operand_as ids (Object n) = Object n
operand_as ids (Part half y) = Part half y
operand_as ids (Outgoing n) = Outgoing n
operand_as ids GlobalRegisters = GlobalRegisters
operand_as ids (OfBlock n) = OfBlock n
operand_as ids (Symbol name) = Symbol name
operand_as ids Mask = Mask

-- the operands of an instruction
abbrev pub operands_as : List ℕ → List Operand → List Operand
operands_as ids operands = map (operand_as ids) operands

-- An instruction: its slots become objects, if the opcode takes them so; else it is left as it is.
abbrev pub instr_as : List ℕ → Instruction → Instruction
instr_as ids i = if has_form i.op (operands_as ids i.operands) then record i { operands = operands_as ids i.operands } else i

-- whether a location is a slot whose entry is a stack object
abbrev pub is_object : List ℕ → Place → Bool
is_object ids (places.Slot n) = is_met n ids
is_object ids (places.Register r) = false
is_object ids (places.Const c) = false

-- the location of a DBG_PHI: none if it is a stack object
abbrev pub place_as : List ℕ → Option Place → Option Place
place_as ids None = None
place_as ids (Some place) = if is_object ids place then None else Some place

-- the kind of an item
abbrev pub kind_as : List ℕ → ItemKind → ItemKind
kind_as ids (Code i k) = Code (instr_as ids i) k
kind_as ids (Mark v m) = Mark v m
kind_as ids (Phi p k) = Phi (place_as ids p) k

-- an item, with the same origin and debug location
abbrev pub item_as : List ℕ → Item → Item
item_as ids i = record { kind = kind_as ids i.kind; origin = i.origin; loc = i.loc }

-- a block
abbrev pub block_as : List ℕ → Block → Block
block_as ids b = record { id = b.id; items = map (item_as ids) b.items; source_end = b.source_end }

-- the blocks of a function
abbrev pub blocks_as : List ℕ → List Block → List Block
blocks_as ids blocks = map (block_as ids) blocks

-- ---- accesses

-- whether there is an object of this number, with at least this many bytes
abbrev pub has_bytes : List func.Object → ℕ → ℕ → Bool
has_bytes objects n bytes = option_map_or (λ (o : func.Object). nat_le bytes o.size) (object_of objects n) false

-- whether an access that ends this many bytes after its base is within its object; one with a register as base passes
abbrev pub base_has_bytes : List func.Object → Base → ℕ → Bool
base_has_bytes objects (PointedBy r) bytes = true
base_has_bytes objects (ObjectAt n) bytes = has_bytes objects n bytes
base_has_bytes objects (BesidePart r y) bytes = true

-- Whether an access is within its object. An address computed in an object may be at most its end, and any address in the linked language.
abbrev pub access_stays : (linked : Bool) → List func.Object → Access → Bool
access_stays linked objects NoAccess = true
access_stays linked objects (SlotAccess n) = true
access_stays linked objects (MemoryAccess base offset width) = base_has_bytes objects base (offset + width)
access_stays linked objects (ObjectAddress n offset) = has_bytes objects n (if linked then 0 else offset)

-- whether an instruction's access is within its object
abbrev pub row_stays : (linked : Bool) → List func.Object → Row → Bool
row_stays linked objects row = access_stays linked objects (access_of row)

-- whether the access of an item, if it has one, is within its object
abbrev pub kind_stays : (linked : Bool) → List func.Object → ItemKind → Bool
kind_stays linked objects (Code i k) = row_stays linked objects (row_of i)
kind_stays linked objects (Mark v m) = true
kind_stays linked objects (Phi p k) = true

-- whether each access of a block is within its object
abbrev pub block_stays : (linked : Bool) → List func.Object → Block → Bool
block_stays linked objects b = list_all (λ i. kind_stays linked objects i.kind) b.items

-- whether each access of these blocks is within its object
abbrev pub blocks_stay : (linked : Bool) → List func.Object → List Block → Bool
blocks_stay linked objects blocks = list_all (block_stays linked objects) blocks
