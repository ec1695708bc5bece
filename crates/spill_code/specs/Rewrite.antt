-- How code is rewritten when registers are spilled to slots.
use Rattle.std.specs.Prelude.{ℕ, false, List, [], ◌∷◌, ◌++◌, map, Option, Some, None, cond, nat_eq, pos}
use Rattle.std.specs.List.{flat_map}
use Rattle.mir_func.specs.rv64_instr.declared.op.Op.TheVariants.{Load, Store}
use Rattle.mir_func.specs.rv64_instr.declared.op.LoadOp.TheVariants.{Ld}
use Rattle.mir_func.specs.rv64_instr.declared.op.StoreOp.TheVariants.{Sd}
use Rattle.mir_func.specs.rv64_instr.declared.operand.Operand.{Operand}
use Rattle.mir_func.specs.rv64_instr.declared.operand.Operand.TheVariants.{Def, Use, ImplicitDef, ImplicitUse}
use Rattle.mir_func.specs.rv64_instr.declared.operand.Operand.TheVariants.{Imm, Slot as OfSlot, Object as OfObject, Part, Outgoing, GlobalRegisters, Block as OfBlock}
use Rattle.mir_func.specs.rv64_instr.declared.operand.Operand.TheVariants.{Symbol, Mask}
use Rattle.mir_func.specs.rv64_instr.declared.place.Place.{Place}
use Rattle.mir_func.specs.rv64_instr.declared.place.Place.TheVariants.{Register, Slot, Const}
use Rattle.mir_func.specs.rv64_instr.Instruction.{Instruction}
use Rattle.mir_func.specs.rv64_instr.LocationEffects.{names_slot}
use Rattle.mir_func.specs.declared.position.Pos.{Pos}
use Rattle.mir_func.specs.declared.position.Origin.{Origin}
use Rattle.mir_func.specs.declared.position.Origin.TheVariants.{Before}
use Rattle.mir_func.specs.declared.location.Loc.{Loc}
use Rattle.mir_func.specs.declared.location.Loc.TheVariants.{Absent}
use Rattle.mir_func.specs.declared.item.Item.{Item}
use Rattle.mir_func.specs.declared.item.ItemKind.{ItemKind}
use Rattle.mir_func.specs.declared.item.ItemKind.TheVariants.{Code, Mark, Phi}
use Rattle.mir_func.specs.declared.block.Block.{Block}
use Rattle.mir_func.specs.Graph.{below, block_start}
use Rattle.mir_func.specs.Positions.{position_of}
use Rattle.spill_code.specs.declared.spilling.SlotAssignment.{SlotAssignment}
use Rattle.spill_code.specs.declared.spilling.Spilling.{Spilling}

-- the slot of a spilled register; none if it isn't spilled
abbrev pub slot_of : List SlotAssignment → ℕ → Option ℕ
slot_of [] r = None
slot_of (h ∷ homes) r = cond (nat_eq h.register r) (Some h.slot) (slot_of homes r)

-- ---- which slots code reads and sets

-- the slot of the register that an explicit use reads, if it is spilled
abbrev pub slot_used : List SlotAssignment → Operand → Option ℕ
slot_used homes (Use r) = slot_of homes r
slot_used homes (Def r) = None
slot_used homes (ImplicitDef r) = None
slot_used homes (ImplicitUse r) = None
slot_used homes (Imm i) = None
slot_used homes (OfSlot n) = None
slot_used homes (OfObject n) = None
slot_used homes (Part half y) = None
slot_used homes (Outgoing n) = None
slot_used homes GlobalRegisters = None
slot_used homes (OfBlock n) = None
slot_used homes (Symbol name) = None
slot_used homes Mask = None

-- the slot of the register that an explicit definition sets, if it is spilled
abbrev pub slot_defined : List SlotAssignment → Operand → Option ℕ
slot_defined homes (Def r) = slot_of homes r
slot_defined homes (Use r) = None
slot_defined homes (ImplicitDef r) = None
slot_defined homes (ImplicitUse r) = None
slot_defined homes (Imm i) = None
slot_defined homes (OfSlot n) = None
slot_defined homes (OfObject n) = None
slot_defined homes (Part half y) = None
slot_defined homes (Outgoing n) = None
slot_defined homes GlobalRegisters = None
slot_defined homes (OfBlock n) = None
slot_defined homes (Symbol name) = None
slot_defined homes Mask = None

-- the first of two optional slots, or the second if there is no first
abbrev pub or_else : Option ℕ → Option ℕ → Option ℕ
or_else None y = y
or_else (Some n) y = Some n

-- the optional slot, unless it is this one
abbrev pub unless_is : (slot : ℕ) → Option ℕ → Option ℕ
unless_is slot None = None
unless_is slot (Some n) = cond (nat_eq slot n) None (Some n)

-- the slot of the first spilled register that operands read
abbrev pub first_used : List SlotAssignment → List Operand → Option ℕ
first_used homes [] = None
first_used homes (o ∷ os) = or_else (slot_used homes o) (first_used homes os)

-- the first such slot other than this one
abbrev pub other_used : List SlotAssignment → (slot : ℕ) → List Operand → Option ℕ
other_used homes slot [] = None
other_used homes slot (o ∷ os) = or_else (unless_is slot (slot_used homes o)) (other_used homes slot os)

-- the slot of the first spilled register that operands set
abbrev pub first_defined : List SlotAssignment → List Operand → Option ℕ
first_defined homes [] = None
first_defined homes (o ∷ os) = or_else (slot_defined homes o) (first_defined homes os)

-- ---- the code itself

-- the register that replaces one that is read: the first scratch register for the first slot, the second one for another
-- slot
abbrev pub stand_in : Spilling → (slot : Option ℕ) → (r : ℕ) → Option ℕ → ℕ
stand_in s slot r None = r
stand_in s slot r (Some n) = cond (names_slot slot n) s.first s.second

-- the register that replaces r in an explicit use: a scratch register if r is spilled
abbrev pub use_now : Spilling → (slot : Option ℕ) → ℕ → ℕ
use_now s slot r = stand_in s slot r (slot_of s.homes r)

-- the register that replaces one that is set
abbrev pub set_in : Spilling → (r : ℕ) → Option ℕ → ℕ
set_in s r None = r
set_in s r (Some n) = s.first

-- the register that replaces r in an explicit definition: the first scratch register if r is spilled
abbrev pub def_now : Spilling → ℕ → ℕ
def_now s r = set_in s r (slot_of s.homes r)

-- an operand with the registers of explicit uses and definitions replaced
abbrev pub renamed_operand : (at_use at_def : ℕ → ℕ) → Operand → Operand
renamed_operand at_use at_def (Use r) = Use (at_use r)
renamed_operand at_use at_def (Def r) = Def (at_def r)
renamed_operand at_use at_def (ImplicitDef r) = ImplicitDef r
renamed_operand at_use at_def (ImplicitUse r) = ImplicitUse r
renamed_operand at_use at_def (Imm i) = Imm i
renamed_operand at_use at_def (OfSlot n) = OfSlot n
renamed_operand at_use at_def (OfObject n) = OfObject n
renamed_operand at_use at_def (Part half y) = Part half y
renamed_operand at_use at_def (Outgoing n) = Outgoing n
renamed_operand at_use at_def GlobalRegisters = GlobalRegisters
renamed_operand at_use at_def (OfBlock n) = OfBlock n
renamed_operand at_use at_def (Symbol name) = Symbol name
renamed_operand at_use at_def Mask = Mask

-- the instruction with the registers of its explicit uses and definitions replaced
abbrev pub renamed_code : (at_use at_def : ℕ → ℕ) → Instruction → Instruction
renamed_code at_use at_def i = record i { operands = map (renamed_operand at_use at_def) i.operands }

-- the instruction with scratch registers in place of spilled ones
abbrev pub spilled_code : Spilling → Instruction → Instruction
spilled_code s i = renamed_code (use_now s (first_used s.homes i.operands)) (def_now s) i

-- ---- what is added

-- `LD r, slot`, the reload of a slot into r (LLVM: `loadRegFromStackSlot`)
abbrev pub load : (r slot : ℕ) → Instruction
load r slot = record { op = Load Ld; operands = Def r ∷ OfSlot slot ∷ Imm (pos 0) ∷ []; volatile = false }

-- `SD r, slot`, the spill of r into its slot (LLVM: `storeRegToStackSlot`)
abbrev pub store : (r slot : ℕ) → Instruction
store r slot = record { op = Store Sd; operands = Use r ∷ OfSlot slot ∷ Imm (pos 0) ∷ []; volatile = false }

-- added code before a position, without number and debug location
abbrev pub added : Pos → Instruction → Item
added p i = record { kind = Code i None; origin = Before p; loc = Absent }

-- the reload of a slot into r, added before a position, if there is a slot
abbrev pub loads : Pos → (r : ℕ) → Option ℕ → List Item
loads p r None = []
loads p r (Some n) = added p (load r n) ∷ []

-- the spill of r into a slot, added before a position, if there is a slot
abbrev pub stores : Pos → (r : ℕ) → Option ℕ → List Item
stores p r None = []
stores p r (Some n) = added p (store r n) ∷ []

-- the reloads for operands whose first slot is this one; none if they read no slot
abbrev pub two_loads : Spilling → Pos → List Operand → (slot : Option ℕ) → List Item
two_loads s p os None = []
two_loads s p os (Some n) = added p (load s.first n) ∷ loads p s.second (other_used s.homes n os)

-- the reloads before code: the first slot that it reads into the first scratch register, and another into the second
abbrev pub loads_before : Spilling → Pos → List Operand → List Item
loads_before s p os = two_loads s p os (first_used s.homes os)

-- ---- items

-- rewritten code, with its reloads before it and the spill of what it defines after it, which is added before the next
-- position
abbrev pub code_items : Spilling → Instruction → Option ℕ → Origin → Loc → List Item
code_items s i k o l =
    loads_before s (position_of o) i.operands ++
    (record { kind = Code (spilled_code s i) k; origin = o; loc = l } ∷ stores (below (position_of o)) s.first (first_defined s.homes i.operands))

-- the location of r's value: its slot if it is spilled, or r itself
abbrev pub place_in : (r : ℕ) → Option ℕ → Place
place_in r None = Register r
place_in r (Some n) = Slot n

-- the location of a DBG_PHI after spilling: the slot in place of a spilled register
abbrev pub spilled_place : List SlotAssignment → Option Place → Option Place
spilled_place homes None = None
spilled_place homes (Some (Register r)) = Some (place_in r (slot_of homes r))
spilled_place homes (Some (Slot n)) = Some (Slot n)
spilled_place homes (Some (Const c)) = Some (Const c)

-- the items that replace an item: code with its spill code, a DBG_PHI with its new location, and a debug value unchanged
abbrev pub kind_items : Spilling → ItemKind → Origin → Loc → List Item
kind_items s (Code i k) o l = code_items s i k o l
kind_items s (Mark v m) o l = record { kind = Mark v m; origin = o; loc = l } ∷ []
kind_items s (Phi p k) o l = record { kind = Phi (spilled_place s.homes p) k; origin = o; loc = l } ∷ []

-- the items that replace an item
abbrev pub spilled_item : Spilling → Item → List Item
spilled_item s i = kind_items s i.kind i.origin i.loc

-- the items of a block with their spill code
abbrev pub spilled_items : Spilling → List Item → List Item
spilled_items s items = flat_map (spilled_item s) items

-- a block with its spill code; its number and its silent index are unchanged
abbrev pub spilled_block : Spilling → Block → Block
spilled_block s b = record { id = b.id; items = spilled_items s b.items; source_end = b.source_end }

-- the stores at the start of the first block, of spilled registers that are live into the function
abbrev pub entry_stores : (block : ℕ) → List SlotAssignment → List Item
entry_stores block entry = map (λ h. added (block_start block) (store h.register h.slot)) entry

-- the first block: it begins with the stores of the registers that are live into it
abbrev pub first_block : Spilling → (entry : List SlotAssignment) → Block → Block
first_block s entry b = record { id = b.id; items = entry_stores b.id entry ++ spilled_items s b.items; source_end = b.source_end }

-- the function's blocks with their spill code
abbrev pub spilled_blocks : Spilling → (entry : List SlotAssignment) → List Block → List Block
spilled_blocks s entry [] = []
spilled_blocks s entry (b ∷ bs) = first_block s entry b ∷ map (spilled_block s) bs
