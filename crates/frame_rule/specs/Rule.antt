-- The function after prologue/epilogue insertion, as one equation on plain functions (RISC-V ELF psABI, "Integer
-- Calling Convention").
--
-- The frame lies below the stack pointer at entry: from x2 upwards the slots in declared order, eight bytes each, then
-- the saved registers, up to a multiple of 16, and above them the stack objects. A prologue before the first block
-- allocates the frame and saves registers, and an epilogue right before each return restores them and deallocates the
-- frame. Nothing else is added, and the rest is unchanged, except that slots are named by their offsets from x2.
use Rattle.std.specs.Prelude.{ℕ, zero, suc, ◌+◌, ◌*◌, ◌^◌, max, Bool, false, not, ◌||◌, ◌&&◌, cond, nat_eq, nat_lt, List, [], ◌∷◌, ◌++◌, map}
use Rattle.std.specs.Prelude.{length, filter, Option, Some, None}
use Rattle.std.specs.List.{flat_map, list_any}
use Rattle.rv64_instr.specs.declared.operand.Operand.{Operand}
use Rattle.rv64_instr.specs.declared.operand.Operand.TheVariants.{Def, Use, ImplicitDef, ImplicitUse, Imm, Slot, Object as OfObject, Part, Block as OfBlock}
use Rattle.rv64_instr.specs.declared.operand.Operand.TheVariants.{Symbol, Mask, Outgoing, GlobalRegisters}
use Rattle.rv64_instr.specs.declared.place.Place.{Place}
use Rattle.rv64_instr.specs.declared.place.Place.TheVariants.{Register, Slot as InSlot, Const}
use Rattle.rv64_instr.specs.Instruction.{Instruction}
use Rattle.rv64_instr.specs.Row.{Row, Returns, row_of, way_leads_back}
use Rattle.rv64_instr.specs.DefsAndUses.{sets}
use Rattle.rv64_instr.specs.View.{Access, NoAccess, SlotAccess, MemoryAccess, ObjectAddress, access_of}
use Rattle.mir_func.specs.declared.block.Block.{Block}
use Rattle.mir_func.specs.declared.framed.SavedRegister.{SavedRegister}
use Rattle.mir_func.specs.declared.framed.SlotPlace.{SlotPlace}
use Rattle.mir_func.specs.declared.item.Item.{Item}
use Rattle.mir_func.specs.declared.item.ItemKind.{ItemKind}
use Rattle.mir_func.specs.declared.item.ItemKind.TheVariants.{Code, Mark, Phi}
use Rattle.mir_func.specs.declared.object.Object.{Object}
use Rattle.mir_func.specs.declared.location.Loc.TheVariants.{Absent}
use Rattle.mir_func.specs.declared.position.Origin.{Origin}
use Rattle.mir_func.specs.declared.position.Origin.TheVariants.{Before}
use Rattle.mir_func.specs.Exits.{leads_back}
use Rattle.mir_func.specs.Function.{Function, FramedFunction}
use Rattle.mir_func.specs.Graph.{block_start}
use Rattle.mir_func.specs.Objects.{up_to, area_of, extent_of, offset_of}
use Rattle.mir_func.specs.SoundFrame.{SAVED, prologue_code, epilogue_code}
use Rattle.mir_func.specs.Positions.{position_of}

-- ---- where slots and saved registers are

-- the index of a slot in declared order: how many doublewords come before it
abbrev pub slots_before : List ℕ → ℕ → ℕ
slots_before [] n = 0
slots_before (s ∷ slots) n = cond (nat_eq s n) 0 (suc (slots_before slots n))

-- the offset of a slot from x2, in bytes
abbrev pub slot_offset : List ℕ → ℕ → ℕ
slot_offset slots n = 8 * slots_before slots n

-- slots from an offset on, one doubleword each
abbrev pub slot_places : ℕ → List ℕ → List SlotPlace
slot_places o [] = []
slot_places o (s ∷ slots) = record { slot = s; offset = o } ∷ slot_places (o + 8) slots

-- saved registers from an offset on, one doubleword each
abbrev pub saved_places : ℕ → List ℕ → List SavedRegister
saved_places o [] = []
saved_places o (r ∷ rs) = record { register = r; offset = o } ∷ saved_places (o + 8) rs

-- code calls what doesn't return, with the return address in ra
abbrev pub never_returns : Row → Bool
never_returns (Returns ending) = not (way_leads_back ending.way)
never_returns _ = false

-- code sets the register; a call sets the caller-saved ones, and one that doesn't return sets ra
abbrev pub sets_register : ℕ → ItemKind → Bool
sets_register r (Code i k) = list_any (nat_eq r) (sets (row_of i)) || (nat_eq r 1 && never_returns (row_of i))
sets_register r (Mark v m) = false
sets_register r (Phi p k) = false

-- some code of the blocks sets the register, whether or not it is reachable
abbrev pub is_set : List Block → ℕ → Bool
is_set blocks r = list_any (λ b. list_any (λ i. sets_register r i.kind) b.items) blocks

-- the registers that are saved, in ascending order: ra and the callee-saved registers that some code sets
abbrev pub saved_registers : List Block → List ℕ
saved_registers blocks = filter (is_set blocks) SAVED

-- the save slots of the saved registers of a function: they are right above its own slots
abbrev pub saved_of : Function → List SavedRegister
saved_of f = saved_places (8 * length f.slots) (saved_registers f.blocks)

-- the bytes of slots and saved registers, rounded up to a multiple of 16
abbrev pub own_size_of : Function → ℕ
own_size_of f = up_to 16 (8 * (length f.slots + length (saved_registers f.blocks)))

-- the size of the frame in bytes
abbrev pub size_of : Function → ℕ
size_of f = own_size_of f + area_of f.objects

-- how far above x2 the address of an object lies that an access forms, where the objects lie above so many bytes; 0 for one below its object
abbrev pub access_end : (own : ℕ) → List Object → Access → ℕ
access_end own objects NoAccess = 0
access_end own objects (SlotAccess n) = 0
access_end own objects (MemoryAccess base offset width) = 0
access_end own objects (ObjectAddress n offset) = cond (nat_lt offset (2 ^ 63)) (own + offset_of objects n + offset) 0

-- the same of an item
abbrev pub kind_end : (own : ℕ) → List Object → ItemKind → ℕ
kind_end own objects (Code i k) = access_end own objects (access_of (row_of i))
kind_end own objects (Mark v m) = 0
kind_end own objects (Phi p k) = 0

-- the greatest of items, or n
unfoldable pub items_end : (own : ℕ) → List Object → ℕ → List Item → ℕ
items_end own objects n [] = n
items_end own objects n (i ∷ items) = items_end own objects (max n (kind_end own objects i.kind)) items

-- the greatest of blocks, or n
unfoldable pub blocks_end : (own : ℕ) → List Object → ℕ → List Block → ℕ
blocks_end own objects n [] = n
blocks_end own objects n (b ∷ blocks) = blocks_end own objects (items_end own objects n b.items) blocks

-- the bytes from x2 up to the end of the frame, or of an argument on the stack that ends above it, or up to an address of an object above both
abbrev pub reach_of : Function → ℕ
reach_of f = blocks_end (own_size_of f) f.objects (own_size_of f + extent_of f.objects) f.blocks

-- ---- what is added

-- added code with this origin, without number and debug location
abbrev pub added : Origin → Instruction → Item
added o i = record { kind = Code i None; origin = o; loc = Absent }

-- added code, if the frame isn't empty
abbrev pub added_all : (size : ℕ) → Origin → List Instruction → List Item
added_all zero o code = []
added_all (suc n) o code = map (added o) code

-- the prologue, before the first position of the first block
abbrev pub prologue : Function → (first : ℕ) → List Item
prologue f first = added_all (size_of f) (Before (block_start first)) (prologue_code (size_of f) (saved_of f))

-- the epilogue before a return with this origin
abbrev pub epilogue : Function → Origin → List Item
epilogue f o = added_all (size_of f) (Before (position_of o)) (epilogue_code (size_of f) (saved_of f))

-- ---- what is kept

-- a slot that an operand names becomes the slot's offset from x2, and every other operand is unchanged
abbrev pub renamed_operand : List ℕ → Operand → Operand
renamed_operand slots (Slot n) = Slot (slot_offset slots n)
renamed_operand slots (Outgoing n) = Outgoing (slot_offset slots n)
renamed_operand slots GlobalRegisters = GlobalRegisters
renamed_operand slots (Def r) = Def r
renamed_operand slots (Use r) = Use r
renamed_operand slots (ImplicitDef r) = ImplicitDef r
renamed_operand slots (ImplicitUse r) = ImplicitUse r
renamed_operand slots (Imm i) = Imm i
renamed_operand slots (OfObject n) = OfObject n
renamed_operand slots (Part half y) = Part half y
renamed_operand slots (OfBlock n) = OfBlock n
renamed_operand slots (Symbol name) = Symbol name
renamed_operand slots Mask = Mask

-- an instruction with slot operands replaced by offsets
abbrev pub renamed_code : List ℕ → Instruction → Instruction
renamed_code slots i = record i { operands = map (renamed_operand slots) i.operands }

-- the location of a DBG_PHI, with a slot replaced by its offset
abbrev pub renamed_place : List ℕ → Option Place → Option Place
renamed_place slots None = None
renamed_place slots (Some (InSlot n)) = Some (InSlot (slot_offset slots n))
renamed_place slots (Some (Register r)) = Some (Register r)
renamed_place slots (Some (Const c)) = Some (Const c)

-- code and DBG_PHIs with slots replaced by offsets; a debug value names no slot
abbrev pub renamed_kind : List ℕ → ItemKind → ItemKind
renamed_kind slots (Code i k) = Code (renamed_code slots i) k
renamed_kind slots (Mark v m) = Mark v m
renamed_kind slots (Phi p k) = Phi (renamed_place slots p) k

-- an item with slots replaced by offsets; its origin and its debug location are unchanged
abbrev pub renamed : List ℕ → Item → Item
renamed slots i = record { kind = renamed_kind slots i.kind; origin = i.origin; loc = i.loc }

-- ---- the function with its frame

-- the items for an item: itself, and the epilogue before one that leads back to the caller
abbrev pub framed_item : Function → Item → List Item
framed_item f i = cond (leads_back i.kind) (epilogue f i.origin) [] ++ renamed f.slots i ∷ []

-- the items of a block, with an epilogue before each item that leads back to the caller
abbrev pub framed_items : Function → List Item → List Item
framed_items f items = flat_map (framed_item f) items

-- a block of the body: its number and its silent index are unchanged
abbrev pub framed_block : Function → Block → Block
framed_block f b = record { id = b.id; items = framed_items f b.items; source_end = b.source_end }

-- the prologue block has the number and the silent index of the block after it
abbrev pub prologue_block : Function → Block → Block
prologue_block f b = record { id = b.id; items = prologue f b.id; source_end = b.source_end }

-- the body after its prologue block, which control enters once and leaves by falling through
abbrev pub framed_blocks : Function → List Block → List Block
framed_blocks f [] = []
framed_blocks f (b ∷ bs) = prologue_block f b ∷ framed_block f b ∷ map (framed_block f) bs

-- the function after prologue and epilogue insertion
abbrev pub framed_of : Function → FramedFunction
framed_of f = record {
  name = f.name;
  size = size_of f;
  offsets = slot_places 0 f.slots;
  saved = saved_of f;
  objects = f.objects;
  blocks = framed_blocks f f.blocks;
}
