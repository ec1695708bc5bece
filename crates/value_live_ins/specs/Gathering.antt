-- The list of a function's tracked entities while it is collected.
use Rattle.std.specs.Prelude.{◌≡◌, ◌↔◌, ◌⊎◌, ℕ, ◌<◌, List, [], ◌∷◌, ◌++◌, Contains, All, Option, None, Some, Bool, true, false, slice_get, take}
use Rattle.std.specs.HashSet.{contains}
use Rattle.rv64_instr.specs.declared.place.Place.{Place}
use Rattle.rv64_instr.specs.declared.place.Place.TheVariants.{Register as InRegister, Slot as InSlot, Const}
use Rattle.rv64_instr.specs.Row.{Row, row_of}
use Rattle.rv64_instr.specs.View.{Access, SlotAccess, access_of}
use Rattle.mir_func.specs.declared.block.Block.{Block}
use Rattle.mir_func.specs.declared.debug_substitution.OperandPair.{OperandPair}
use Rattle.mir_func.specs.declared.item.Item.{Item}
use Rattle.mir_func.specs.declared.item.ItemKind.{ItemKind}
use Rattle.mir_func.specs.declared.item.ItemKind.TheVariants.{Code, Mark, Phi}
use Rattle.mir_func.specs.declared.variable.VarId.{VarId}
use Rattle.sem_value_ids.specs.Pullback.{Tracked as Entity}
use Rattle.value_proof.specs.Classes.{KnowsItem, KnowsValue, KnowsPlace, known_past}
use Rattle.value_solver.specs.declared.tracked.Tracked.{Tracked}
use Rattle.value_solver.specs.declared.tracked.Tracked.TheVariants.{Register, Slot, Pair, Part, Number}
use Rattle.value_tracker.specs.Things.{IsOffset}
use Rattle.value_live_ins.specs.declared.gather.TrackedItemSet.{TrackedItemSet}
use Rattle.value_live_ins.specs.Keys.{key_of, is_key}
use Rattle.value_live_ins.specs.Used.{IsTrackedRegister}

-- an entity that may be tracked: a register but x0 and x2, a doubleword of the frame, or any other entity that is no register or
-- slot
abbrev pub MayTrack : Tracked → Type 0
MayTrack (Register r) = IsTrackedRegister r
MayTrack (Slot n) = IsOffset n
MayTrack (Pair q) = Unit {0}
MayTrack (Part v) = Unit {0}
MayTrack (Number c) = Unit {0}

-- no entity is listed twice
abbrev pub AreOnce : List Tracked → Type 0
AreOnce things = (i j : ℕ) (x : Tracked) → slice_get things i ≡ Some x → slice_get things j ≡ Some x → i ≡ j

-- the list has each entity once, all that may be tracked, and `seen` has exactly their keys
pub record IsGathered (g : TrackedItemSet) : Type 0 where
  pub once : AreOnce g.things
  pub may : (i : ℕ) (x : Tracked) → slice_get g.things i ≡ Some x → MayTrack x
  pub seen : (x : Tracked) → (contains is_key g.seen (key_of x) ≡ true) ↔ Contains g.things x

-- the result of adding an entity: true if it is appended, and false if it was in the list already
abbrev pub Added : (old new : List Tracked) → Tracked → Bool → Type 0
Added old new x true = new ≡ old ++ x ∷ []
Added old new x false = (new ≡ old) × Contains old x

-- any entity but a part of a variable
abbrev pub IsNoPart : Tracked → Type 0
IsNoPart (Register r) = Unit {0}
IsNoPart (Slot n) = Unit {0}
IsNoPart (Pair q) = Unit {0}
IsNoPart (Part v) = ⊥
IsNoPart (Number c) = Unit {0}

-- entities were appended, none of them a part of a variable
pub record Grows (old new : List Tracked) : Type 0 where
  pub more : List Tracked
  pub is : new ≡ old ++ more
  pub others : (i : ℕ) (x : Tracked) → slice_get more i ≡ Some x → IsNoPart x

-- no other entities were appended than those with the property
abbrev pub AppendsOnly : (Tracked → Type 0) → (old new : List Tracked) → Type 0
AppendsOnly P old new = (x : Tracked) → Contains new x → Contains old x ⊎ P x

-- the entity is a register
abbrev pub IsRegister : Tracked → Type 0
IsRegister x = (r : ℕ) × (x ≡ Register r)

-- the entity is one of these pairs
abbrev pub IsPairOf : List OperandPair → Tracked → Type 0
IsPairOf pairs x = (q : OperandPair) × Contains pairs q × (x ≡ Pair q)

-- a slot that is accessed is a doubleword of the frame
abbrev pub AccessHasOffset : Access → Type 0
AccessHasOffset (SlotAccess n) = IsOffset n
AccessHasOffset _ = Unit {0}

-- a slot that an instruction of this row accesses is a doubleword of the frame
abbrev pub RowHasOffset : Row → Type 0
RowHasOffset row = AccessHasOffset (access_of row)

-- a slot that a DBG_PHI reads is a doubleword of the frame
abbrev pub PlaceHasOffset : Option Place → Type 0
PlaceHasOffset None = Unit {0}
PlaceHasOffset (Some (InRegister r)) = Unit {0}
PlaceHasOffset (Some (InSlot n)) = IsOffset n
PlaceHasOffset (Some (Const c)) = Unit {0}

-- a slot that an item accesses is a doubleword of the frame
abbrev pub HasOffsets : ItemKind → Type 0
HasOffsets (Code i k) = RowHasOffset (row_of i)
HasOffsets (Mark v m) = Unit {0}
HasOffsets (Phi p k) = PlaceHasOffset p

-- the entities that an item copies are known. The part of a variable that a debug value assigns needn't be
abbrev pub KnowsPassed : List Entity → (OperandPair → Option OperandPair) → ItemKind → Type 0
KnowsPassed known resolve (Code i k) = KnowsItem known resolve (Code i k)
KnowsPassed known resolve (Mark v m) = KnowsValue known resolve m
KnowsPassed known resolve (Phi p k) = KnowsPlace known p

-- the entities that each of these items copies are known before it, where the list is known before the first
abbrev pub KnowsPassedItems : List Entity → (OperandPair → Option OperandPair) → List Item → Type 0
KnowsPassedItems known resolve items = (k : ℕ) (item : Item) → slice_get items k ≡ Some item →
    KnowsPassed (known_past known (take k items)) resolve item.kind

-- the same, and of each of them the part of a variable that it assigns, if it is a debug value
abbrev pub KnowsItems : List Entity → (OperandPair → Option OperandPair) → List Item → Type 0
KnowsItems known resolve items = (k : ℕ) (item : Item) → slice_get items k ≡ Some item →
    KnowsItem (known_past known (take k items)) resolve item.kind

-- the same of the items of each block
abbrev pub KnowsPassedBlocks : List Entity → (OperandPair → Option OperandPair) → List Block → Type 0
KnowsPassedBlocks known resolve blocks = All (λ b. KnowsPassedItems known resolve b.items) blocks

abbrev pub KnowsBlocks : List Entity → (OperandPair → Option OperandPair) → List Block → Type 0
KnowsBlocks known resolve blocks = All (λ b. KnowsItems known resolve b.items) blocks

-- the part of a variable that the item assigns, if it is a debug value, is one of these
abbrev pub HasPart : List VarId → ItemKind → Type 0
HasPart variables (Code i k) = Unit {0}
HasPart variables (Mark v m) = Contains variables v
HasPart variables (Phi p k) = Unit {0}

-- the register is listed, if it is tracked
abbrev pub HasRegister : ℕ → List Tracked → Type 0
HasRegister n things = IsTrackedRegister n → Contains things (Register n)

-- all tracked registers below m are listed
abbrev pub HasRegistersBelow : ℕ → List Tracked → Type 0
HasRegistersBelow m things = (n : ℕ) → n < m → HasRegister n things
