-- Invariants of every function with its frame (RISC-V ELF psABI, "Integer Calling Convention").
use Rattle.std.specs.Prelude.{◌+◌, Contains, length, ◌≡◌, ℕ, zero, suc, ℤ, pos, ◌-ℤ◌, ◌-◌, ◌%◌, ◌^◌, ◌<◌, ◌≤◌, List, [], ◌∷◌, ◌++◌, map, Option, Some, None, All}
use Rattle.std.specs.Prelude.{true, false}
use Rattle.std.specs.List.Sorted.{IsStrictlyIncreasing}
use Rattle.rv64_instr.specs.declared.op.Op.TheVariants.{Immediate, Load, Store}
use Rattle.rv64_instr.specs.declared.op.ImmediateOp.TheVariants.{Addi}
use Rattle.rv64_instr.specs.declared.op.LoadOp.TheVariants.{Ld}
use Rattle.rv64_instr.specs.declared.op.StoreOp.TheVariants.{Sd}
use Rattle.rv64_instr.specs.declared.operand.Operand.{Operand}
use Rattle.rv64_instr.specs.declared.operand.Operand.TheVariants.{Def, Use, ImplicitDef, ImplicitUse, Imm, Slot, Object as OfObject, Part, Block as OfBlock}
use Rattle.rv64_instr.specs.declared.operand.Operand.TheVariants.{Symbol}
use Rattle.rv64_instr.specs.declared.operand.Operand.TheVariants.{Mask, Outgoing, GlobalRegisters}
use Rattle.rv64_instr.specs.declared.place.Place.{Place}
use Rattle.rv64_instr.specs.declared.place.Place.TheVariants.{Register, Slot as InSlot, Const}
use Rattle.rv64_instr.specs.Instruction.{Instruction}
use Rattle.rv64_instr.specs.Row.{row_of}
use Rattle.rv64_instr.specs.View.{Access, NoAccess, SlotAccess, MemoryAccess, ObjectAddress, access_of}
use Rattle.mir_func.specs.declared.block.Block.{Block}
use Rattle.mir_func.specs.declared.framed.SavedRegister.{SavedRegister}
use Rattle.mir_func.specs.declared.item.Item.{Item}
use Rattle.mir_func.specs.declared.item.ItemKind.{ItemKind}
use Rattle.mir_func.specs.declared.item.ItemKind.TheVariants.{Code, Mark, Phi}
use Rattle.mir_func.specs.declared.object.Object.{Object as StackObject}
use Rattle.mir_func.specs.declared.variable.MarkValue.{MarkValue}
use Rattle.mir_func.specs.declared.variable.MarkValue.TheVariants.{Nothing, Constant, At, Pair}
use Rattle.mir_func.specs.Function.{FramedFunction}
use Rattle.mir_func.specs.Exits.{leads_back}
use Rattle.mir_func.specs.Limits.{MAX_FRAME, MAX_SLOTS}
use Rattle.mir_func.specs.Objects.{AreLaid, area_of, extent_of, offset_of}
use Rattle.mir_func.specs.Sound.{AreApart, ids_of, AllItems, TargetsIn, SlotsIn, KindPassesFirst, ObjectsIn, IsSoundObject, LeavesPointer, EndsWell, LastCloses}

-- the registers that a frame may save: the return address and the callee-saved registers (RISC-V ELF psABI, "Integer
-- Register Convention": ra, s0 to s11)
abbrev pub SAVED : List ℕ
SAVED = 1 ∷ 8 ∷ 9 ∷ 18 ∷ 19 ∷ 20 ∷ 21 ∷ 22 ∷ 23 ∷ 24 ∷ 25 ∷ 26 ∷ 27 ∷ []

-- the offsets of slots and of saved registers, in bytes from x2
abbrev pub slot_offsets : FramedFunction → List ℕ
slot_offsets f = map (λ s. s.offset) f.offsets ++ map (λ s. s.offset) f.saved

-- the bytes of the frame below its stack objects: slots and saved registers
abbrev pub own_size : FramedFunction → ℕ
own_size f = f.size - area_of f.objects

-- an operand's register is physical
abbrev pub IsPhysical : Operand → Type 0
IsPhysical (Def r) = r < 32
IsPhysical (Use r) = r < 32
IsPhysical (ImplicitDef r) = r < 32
IsPhysical (ImplicitUse r) = r < 32
IsPhysical (Imm i) = Unit {0}
IsPhysical (Slot n) = Unit {0}
IsPhysical (OfObject n) = Unit {0}
IsPhysical (Part half y) = Unit {0}
IsPhysical (Outgoing n) = Unit {0}
IsPhysical GlobalRegisters = Unit {0}
IsPhysical (OfBlock n) = Unit {0}
IsPhysical (Symbol name) = Unit {0}
IsPhysical Mask = Unit {0}

-- a register that a mark names is physical
abbrev pub ValueIsPhysical : MarkValue → Type 0
ValueIsPhysical Nothing = Unit {0}
ValueIsPhysical (Constant c) = Unit {0}
ValueIsPhysical (At r) = r < 32
ValueIsPhysical (Pair q) = Unit {0}

-- a register that a phi's place names is physical
abbrev pub PlaceIsPhysical : Option Place → Type 0
PlaceIsPhysical None = Unit {0}
PlaceIsPhysical (Some (Register r)) = r < 32
PlaceIsPhysical (Some (InSlot n)) = Unit {0}
PlaceIsPhysical (Some (Const c)) = Unit {0}

-- the registers of an item are x0 to x31
abbrev pub HasPhysical : ItemKind → Type 0
HasPhysical (Code i k) = All IsPhysical i.operands
HasPhysical (Mark v m) = ValueIsPhysical m
HasPhysical (Phi p k) = PlaceIsPhysical p

-- `ADDI x2, x2, n`
abbrev pub adds_to_pointer : ℤ → Instruction
adds_to_pointer n = record { op = Immediate Addi; operands = Def 2 ∷ Use 2 ∷ Imm n ∷ []; volatile = false }

-- `SD` of a saved register to its slot in the frame
abbrev pub saves : SavedRegister → Instruction
saves s = record { op = Store Sd; operands = Use s.register ∷ Slot s.offset ∷ Imm (pos 0) ∷ []; volatile = false }

-- `LD` of a saved register from its slot in the frame
abbrev pub restores : SavedRegister → Instruction
restores s = record { op = Load Ld; operands = Def s.register ∷ Slot s.offset ∷ Imm (pos 0) ∷ []; volatile = false }

-- the prologue: it lowers x2 by the frame's size, and then saves registers
abbrev pub prologue_code : (size : ℕ) → List SavedRegister → List Instruction
prologue_code size saved = adds_to_pointer (pos 0 -ℤ pos size) ∷ map saves saved

-- the epilogue: it restores the saved registers, and then raises x2
abbrev pub epilogue_code : (size : ℕ) → List SavedRegister → List Instruction
epilogue_code size saved = map restores saved ++ adds_to_pointer (pos size) ∷ []

-- the items are this code, without debug instruction numbers
abbrev pub AreCode : List Item → List Instruction → Type 0
AreCode items code = map (λ i. i.kind) items ≡ map (λ i. Code i None) code

-- an item of the body: no explicit operand of its code is x2, and it doesn't lead back to the caller
pub record IsBody (i : Item) : Type 0 where
  pub pointer : LeavesPointer i.kind
  pub stays : leads_back i.kind ≡ false

-- the items of a block are of the body; or the epilogue and an item that leads back to the caller come after items of the body
pub data GivesBack (epilogue : List Instruction) : List Item → Type 0 where
  goes_on : {items : List Item} → All IsBody items → GivesBack epilogue items
  returns : (body given_back : List Item) (last : Item) → All IsBody body → AreCode given_back epilogue → leads_back last.kind ≡ true →
      LeavesPointer last.kind → GivesBack epilogue (body ++ given_back ++ last ∷ [])

-- with a frame, a prologue, and an epilogue before each return; without a frame, neither
abbrev pub HasFrame : (size : ℕ) → List SavedRegister → List Block → Type 0
HasFrame size saved [] = ⊥
HasFrame zero saved (p ∷ blocks) = (p.items ≡ []) × (saved ≡ []) × AllItems (λ i. LeavesPointer i.kind) blocks
HasFrame (suc n) saved (p ∷ blocks) = AreCode p.items (prologue_code (suc n) saved) × All (λ b. GivesBack (epilogue_code (suc n) saved) b.items) blocks

-- the blocks after the prologue
abbrev pub body_of : List Block → List Block
body_of [] = []
body_of (p ∷ blocks) = blocks

-- the prologue has the number of the next block
abbrev pub NumberedAlike : List Block → Type 0
NumberedAlike (p ∷ b ∷ rest) = p.id ≡ b.id
NumberedAlike _ = ⊥

-- an offset of a doubleword below the frame's stack objects
abbrev pub IsSlotOffset : FramedFunction → ℕ → Type 0
IsSlotOffset f o = (o % 8 ≡ 0) × (o < own_size f)

-- doublewords from an offset on, one behind the other
abbrev pub AreDoublewords : (offset : ℕ) → List ℕ → Type 0
AreDoublewords o [] = Unit {0}
AreDoublewords o (n ∷ ns) = (n ≡ o) × AreDoublewords (o + 8) ns

-- the address of an object that code forms lies at most MAX_FRAME bytes above x2, where the objects lie above so many bytes; one below its object lies lower
-- than that
abbrev pub AccessReaches : (own : ℕ) → List StackObject → Access → Type 0
AccessReaches own objects NoAccess = Unit {0}
AccessReaches own objects (SlotAccess n) = Unit {0}
AccessReaches own objects (MemoryAccess base offset width) = Unit {0}
AccessReaches own objects (ObjectAddress n offset) = offset < 2 ^ 63 → own + offset_of objects n + offset ≤ MAX_FRAME

-- the same of an item
abbrev pub KindReaches : (own : ℕ) → List StackObject → ItemKind → Type 0
KindReaches own objects (Code i k) = AccessReaches own objects (access_of (row_of i))
KindReaches own objects (Mark v m) = Unit {0}
KindReaches own objects (Phi p k) = Unit {0}

-- the invariant of every function with its frame
pub record IsFramed (f : FramedFunction) : Type 0 where
  pub aligned : f.size % 16 ≡ 0
  pub small : f.size ≤ MAX_FRAME
  pub room : area_of f.objects ≤ f.size
  pub reach : own_size f + extent_of f.objects ≤ MAX_FRAME
  pub few : length f.offsets + length f.objects ≤ MAX_SLOTS
  pub offsets : All (IsSlotOffset f) (slot_offsets f)
  pub offsets_apart : AreApart (slot_offsets f)
  pub offsets_laid : AreDoublewords 0 (slot_offsets f)
  pub each_object : All IsSoundObject f.objects
  pub objects_apart : AreApart (map (λ o. o.id) f.objects)
  pub objects_laid : AreLaid f.objects
  pub slots : AllItems (λ i. SlotsIn (slot_offsets f) i.kind) f.blocks
  pub passed : AllItems (λ i. KindPassesFirst (map (λ s. s.offset) f.offsets) i.kind) f.blocks
  pub objects : AllItems (λ i. ObjectsIn f.objects i.kind) f.blocks
  pub addresses : AllItems (λ i. KindReaches (own_size f) f.objects i.kind) f.blocks
  pub saved : IsStrictlyIncreasing (map (λ s. s.register) f.saved)
  pub saved_kept : All (λ s. Contains SAVED s.register) f.saved
  pub physical : AllItems (λ i. HasPhysical i.kind) f.blocks
  pub frame : HasFrame f.size f.saved f.blocks
  pub number : NumberedAlike f.blocks
  pub blocks_apart : AreApart (ids_of (body_of f.blocks))
  pub targets : AllItems (λ i. TargetsIn (ids_of (body_of f.blocks)) i.kind) f.blocks
  pub ends : All (λ b. EndsWell b.items) (body_of f.blocks)
  pub last : LastCloses (body_of f.blocks)
