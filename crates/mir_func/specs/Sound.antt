-- Invariants of every function (LLVM, Machine IR (MIR) Format Reference Manual, "Machine Basic Blocks").
use Rattle.std.specs.Prelude.{◌≡◌, ℕ, ◌+◌, ◌<◌, ◌≤◌, ℤ, unsigned_abs, List, [], ◌∷◌, map, length, Option, Some, None, slice_get, All, Contains, IsTrue}
use Rattle.std.specs.List.{flat_map}
use Rattle.rv64_instr.specs.declared.operand.Operand.{Operand}
use Rattle.rv64_instr.specs.declared.operand.Operand.TheVariants.{Def, Use, ImplicitDef, ImplicitUse, Imm, Slot as OfSlot, Object as OfObject, Part}
use Rattle.rv64_instr.specs.declared.operand.Operand.TheVariants.{Block as OfBlock}
use Rattle.rv64_instr.specs.declared.operand.Operand.TheVariants.{Symbol, Mask, Outgoing, GlobalRegisters}
use Rattle.rv64_instr.specs.declared.place.Place.{Place}
use Rattle.rv64_instr.specs.declared.place.Place.TheVariants.{Register, Slot, Const}
use Rattle.rv64_instr.specs.Row.{Base, PointedBy, ObjectAt, BesidePart}
use Rattle.rv64_instr.specs.Form.{has_form}
use Rattle.rv64_instr.specs.Row.{Row, Calls, row_of}
use Rattle.rv64_instr.specs.View.{Access, NoAccess, SlotAccess, MemoryAccess, ObjectAddress, access_of}
use Rattle.mir_func.specs.declared.block.Block.{Block}
use Rattle.mir_func.specs.declared.item.Item.{Item}
use Rattle.mir_func.specs.declared.item.ItemKind.{ItemKind}
use Rattle.mir_func.specs.declared.item.ItemKind.TheVariants.{Code, Mark, Phi}
use Rattle.mir_func.specs.declared.object.Object.{Object}
use Rattle.mir_func.specs.declared.position.Origin.{Origin}
use Rattle.mir_func.specs.declared.position.Origin.TheVariants.{Kept, Before}
use Rattle.mir_func.specs.declared.exit.Exit.{Exit}
use Rattle.mir_func.specs.declared.exit.Exit.TheVariants.{Onward, Perhaps, Always, Final}
use Rattle.mir_func.specs.Exits.{row_exit, exit_of, IsAlways, Leaves}
use Rattle.mir_func.specs.Limits.{MAX_BLOCKS, MAX_SLOTS}
use Rattle.mir_func.specs.Objects.{ALIGNMENTS, object_of, AreLaid}
use Rattle.mir_func.specs.Function.{Function}
use Rattle.rv64_instr.specs.base_ids.Limits.{MAX_NUMBER}

-- no number occurs twice
abbrev pub AreApart : List ℕ → Type 0
AreApart ns = (i j n : ℕ) → slice_get ns i ≡ Some n → slice_get ns j ≡ Some n → i ≡ j

-- the numbers of the blocks, in their order
abbrev pub ids_of : List Block → List ℕ
ids_of blocks = map (λ b. b.id) blocks

-- the number and the items of a block, without the index of its end
abbrev pub contents_of : Block → ℕ × List Item
contents_of b = (b.id, b.items)

-- the items of all blocks, in their order
abbrev pub items_of : List Block → List Item
items_of blocks = flat_map (λ b. b.items) blocks

-- P holds of each item
abbrev pub AllItems : (Item → Type 0) → List Block → Type 0
AllItems P blocks = All (λ b. All P b.items) blocks

-- the operands of code have the form of its opcode
abbrev pub HasForm : ItemKind → Type 0
HasForm (Code i k) = IsTrue (has_form i.op i.operands)
HasForm (Mark v m) = Unit {0}
HasForm (Phi p k) = Unit {0}

-- the target of an exit is one of these blocks
abbrev pub ExitIn : List ℕ → Exit → Type 0
ExitIn ids Onward = Unit {0}
ExitIn ids (Perhaps n) = Contains ids n
ExitIn ids (Always n) = Contains ids n
ExitIn ids Final = Unit {0}

-- the target of a branch of this row is one of these blocks
abbrev pub TargetIn : List ℕ → Row → Type 0
TargetIn ids row = ExitIn ids (row_exit row)

-- the target of a branch is one of these blocks
abbrev pub TargetsIn : List ℕ → ItemKind → Type 0
TargetsIn ids kind = ExitIn ids (exit_of kind)

-- a slot that is accessed is one of these
abbrev pub AccessedSlotIn : List ℕ → Access → Type 0
AccessedSlotIn slots (SlotAccess n) = Contains slots n
AccessedSlotIn slots _ = Unit {0}

-- a slot that this row names is one of these
abbrev pub SlotIn : List ℕ → Row → Type 0
SlotIn slots row = AccessedSlotIn slots (access_of row)

-- a slot that an operand passes to a callee is one of these
abbrev pub PassedIn : List ℕ → Operand → Type 0
PassedIn slots (Outgoing n) = Contains slots n
PassedIn slots _ = Unit {0}

-- the first of some numbers are these, in their order
abbrev pub BeginWith : (numbers first : List ℕ) → Type 0
BeginWith numbers [] = Unit {0}
BeginWith [] (m ∷ ms) = ⊥
BeginWith (n ∷ ns) (m ∷ ms) = (n ≡ m) × BeginWith ns ms

-- a call passes the first slots, in their order: the k-th lies at x2 + 8k, where the callee looks for its k-th argument on the stack (RISC-V ELF
-- psABI, "Integer Calling Convention")
abbrev pub PassesFirst : (slots : List ℕ) → Row → Type 0
PassesFirst slots (Calls call) = BeginWith slots call.outgoing
PassesFirst slots _ = Unit {0}

-- code that calls passes the first slots
abbrev pub KindPassesFirst : (slots : List ℕ) → ItemKind → Type 0
KindPassesFirst slots (Code i k) = PassesFirst slots (row_of i)
KindPassesFirst slots (Mark v m) = Unit {0}
KindPassesFirst slots (Phi p k) = Unit {0}

-- a slot that a phi's place names is one of these
abbrev pub PlaceIn : List ℕ → Option Place → Type 0
PlaceIn slots (Some (Slot n)) = Contains slots n
PlaceIn slots (Some (Register r)) = Unit {0}
PlaceIn slots (Some (Const c)) = Unit {0}
PlaceIn slots None = Unit {0}

-- a slot that an item names is one of these
abbrev pub SlotsIn : List ℕ → ItemKind → Type 0
SlotsIn slots (Code i k) = SlotIn slots (row_of i) × All (PassedIn slots) i.operands
SlotsIn slots (Mark v m) = Unit {0}
SlotsIn slots (Phi p k) = PlaceIn slots p

-- there is an object with this number, and it has so many bytes at least
abbrev pub HasBytes : List Object → (n bytes : ℕ) → Type 0
HasBytes objects n bytes = (o : Object) × (object_of objects n ≡ Some o) × (bytes ≤ o.size)

-- if the base is a stack object, there is one with its number, and it has so many bytes at least
abbrev pub BaseHasBytes : List Object → Base → (bytes : ℕ) → Type 0
BaseHasBytes objects (PointedBy r) bytes = Unit {0}
BaseHasBytes objects (ObjectAt n) bytes = HasBytes objects n bytes
BaseHasBytes objects (BesidePart r y) bytes = Unit {0}

-- an access by a stack object stays within it; an address that is computed from one may lie anywhere, and the object is there
abbrev pub AccessIn : List Object → Access → Type 0
AccessIn objects NoAccess = Unit {0}
AccessIn objects (SlotAccess n) = Unit {0}
AccessIn objects (MemoryAccess base offset width) = BaseHasBytes objects base (offset + width)
AccessIn objects (ObjectAddress n offset) = HasBytes objects n 0

-- a row's access by a stack object stays within it
abbrev pub ObjectIn : List Object → Row → Type 0
ObjectIn objects row = AccessIn objects (access_of row)

-- an item's accesses by stack objects stay in them
abbrev pub ObjectsIn : List Object → ItemKind → Type 0
ObjectsIn objects (Code i k) = ObjectIn objects (row_of i)
ObjectsIn objects (Mark v m) = Unit {0}
ObjectsIn objects (Phi p k) = Unit {0}

-- an explicit operand isn't x2
abbrev pub IsNotPointer : Operand → Type 0
IsNotPointer (Def r) = r ≡ 2 → ⊥
IsNotPointer (Use r) = r ≡ 2 → ⊥
IsNotPointer (ImplicitDef r) = Unit {0}
IsNotPointer (ImplicitUse r) = Unit {0}
IsNotPointer (Imm i) = Unit {0}
IsNotPointer (OfSlot n) = Unit {0}
IsNotPointer (OfObject n) = Unit {0}
IsNotPointer (Part half y) = Unit {0}
IsNotPointer (Outgoing n) = Unit {0}
IsNotPointer GlobalRegisters = Unit {0}
IsNotPointer (OfBlock n) = Unit {0}
IsNotPointer (Symbol name) = Unit {0}
IsNotPointer Mask = Unit {0}

-- no explicit operand of an item's code is x2, the stack pointer
abbrev pub LeavesPointer : ItemKind → Type 0
LeavesPointer (Code i k) = All IsNotPointer i.operands
LeavesPointer (Mark v m) = Unit {0}
LeavesPointer (Phi p k) = Unit {0}

-- an item's debug instruction number
abbrev pub number_of : ItemKind → Option ℕ
number_of (Code i k) = k
number_of (Mark v m) = None
number_of (Phi p k) = Some k

-- the debug instruction number of code. That of a phi doesn't count
abbrev pub code_number : ItemKind → Option ℕ
code_number (Code i k) = k
code_number (Mark v m) = None
code_number (Phi p k) = None

-- the debug instruction number of code is on no other item; several DBG_PHIs may share one
abbrev pub NumbersOnce : List Item → Type 0
NumbersOnce items = (i j : ℕ) (x y : Item) (k : ℕ) → slice_get items i ≡ Some x → code_number x.kind ≡ Some k →
    slice_get items j ≡ Some y → number_of y.kind ≡ Some k → i ≡ j

-- the origin is in the block: an item is kept at an index below the silent one, or was added before an index up to it
abbrev pub OriginIn : Block → Origin → Type 0
OriginIn b (Kept p) = (p.block ≡ b.id) × (p.item < b.source_end)
OriginIn b (Before p) = (p.block ≡ b.id) × (p.item ≤ b.source_end)

-- at most one item, and that is a jump
abbrev pub IsJumpAtMost : List Item → Type 0
IsJumpAtMost [] = Unit {0}
IsJumpAtMost (j ∷ []) = IsAlways (exit_of j.kind)
IsJumpAtMost _ = ⊥

-- the items that may come after one with this exit
abbrev pub MayFollow : Exit → List Item → Type 0
MayFollow Onward rest = Unit {0}
MayFollow (Perhaps n) rest = IsJumpAtMost rest
MayFollow (Always n) rest = rest ≡ []
MayFollow Final rest = rest ≡ []

-- a block ends with no branch, a return, a jump, a conditional branch, or a conditional branch and a jump
abbrev pub EndsWell : List Item → Type 0
EndsWell [] = Unit {0}
EndsWell (i ∷ rest) = MayFollow (exit_of i.kind) rest × EndsWell rest

-- there are items, and control doesn't fall through the last one
abbrev pub Closes : List Item → Type 0
Closes [] = ⊥
Closes (i ∷ []) = Leaves (exit_of i.kind)
Closes (i ∷ j ∷ rest) = Closes (j ∷ rest)

-- there is a block, and control doesn't fall through the last one
abbrev pub LastCloses : List Block → Type 0
LastCloses [] = ⊥
LastCloses (b ∷ []) = Closes b.items
LastCloses (b ∷ c ∷ rest) = LastCloses (c ∷ rest)

-- a local offset isn't 0, and is within the limit of numbers
abbrev pub IsLocalOffset : Option ℕ → Type 0
IsLocalOffset None = Unit {0}
IsLocalOffset (Some n) = (0 < n) × (n ≤ MAX_NUMBER)

-- an offset from the stack pointer at entry, if there is one, is within its limits, and the object has no local offset
abbrev pub IsFixedOffset : (fixed : Option ℤ) → (local : Option ℕ) → Type 0
IsFixedOffset None local = Unit {0}
IsFixedOffset (Some d) local = (unsigned_abs d ≤ MAX_NUMBER) × (local ≡ None)

-- the invariant of a stack object
pub record IsSoundObject (o : Object) : Type 0 where
  pub size : o.size ≤ MAX_NUMBER
  pub aligned : Contains ALIGNMENTS o.align
  pub local : IsLocalOffset o.local_offset
  pub fixed : IsFixedOffset o.fixed_offset o.local_offset

-- the invariant of every function before frame lowering
pub record IsSound (f : Function) : Type 0 where
  pub blocks_apart : AreApart (ids_of f.blocks)
  pub slots_apart : AreApart f.slots
  pub objects_apart : AreApart (map (λ o. o.id) f.objects)
  pub few_blocks : length f.blocks ≤ MAX_BLOCKS
  pub few_slots : length f.slots + length f.objects ≤ MAX_SLOTS
  pub each_object : All IsSoundObject f.objects
  pub objects_laid : AreLaid f.objects
  pub targets : AllItems (λ i. TargetsIn (ids_of f.blocks) i.kind) f.blocks
  pub slots : AllItems (λ i. SlotsIn f.slots i.kind) f.blocks
  pub passed : AllItems (λ i. KindPassesFirst f.slots i.kind) f.blocks
  pub objects : AllItems (λ i. ObjectsIn f.objects i.kind) f.blocks
  pub pointer : AllItems (λ i. LeavesPointer i.kind) f.blocks
  pub numbers : NumbersOnce (items_of f.blocks)
  pub origins : All (λ b. All (λ i. OriginIn b i.origin) b.items) f.blocks
  pub ends : All (λ b. EndsWell b.items) f.blocks
  pub last : LastCloses f.blocks
