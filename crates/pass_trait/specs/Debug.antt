-- The third law of passes, the debug rule: each debug value, DBG_PHI, number and substitution is kept, or its loss is reported.
use Rattle.std.specs.Prelude.{◌≡◌, ◌⊎◌, ℕ, ◌<◌, ◌≤◌, suc, List, [], ◌∷◌, ◌++◌, Option, Some, None, Bool, true, not, ◌&&◌, All, Contains}
use Rattle.sem_simulation.specs.rv64_instr.declared.place.Place.{Place}
use Rattle.sem_simulation.specs.rv64_instr.declared.place.Place.TheVariants.{Register, Slot, Const}
use Rattle.sem_simulation.specs.rv64_instr.Instruction.{Instruction}
use Rattle.sem_simulation.specs.rv64_instr.Row.{row_of}
use Rattle.sem_simulation.specs.rv64_instr.DefsAndUses.{sets}
use Rattle.sem_simulation.specs.mir_func.declared.position.Pos.{Pos}
use Rattle.sem_simulation.specs.mir_func.declared.position.Origin.{Origin}
use Rattle.sem_simulation.specs.mir_func.declared.position.Origin.TheVariants.{Before}
use Rattle.sem_simulation.specs.mir_func.declared.location.Loc.{Loc}
use Rattle.sem_simulation.specs.mir_func.declared.variable.VarId.{VarId}
use Rattle.sem_simulation.specs.mir_func.declared.variable.MarkValue.{MarkValue}
use Rattle.sem_simulation.specs.mir_func.declared.variable.MarkValue.TheVariants.{Nothing, Constant, At, Pair}
use Rattle.sem_simulation.specs.mir_func.declared.item.Item.{Item}
use Rattle.sem_simulation.specs.mir_func.declared.item.ItemKind.{ItemKind}
use Rattle.sem_simulation.specs.mir_func.declared.item.ItemKind.TheVariants.{Code, Mark, Phi}
use Rattle.sem_simulation.specs.mir_func.declared.block.Block.{Block}
use Rattle.sem_simulation.specs.mir_func.declared.debug_substitution.OperandPair.{OperandPair}
use Rattle.sem_simulation.specs.mir_func.declared.debug_substitution.DebugSubstitution.{DebugSubstitution}
use Rattle.sem_simulation.specs.mir_func.Graph.{below, block_start}
use Rattle.sem_simulation.specs.mir_func.Resolve.{entry_of, Ends}
use Rattle.sem_simulation.specs.mir_func.Positions.{position_of}
use Rattle.pass_trait.specs.declared.loss.Reason.{Reason}
use Rattle.pass_trait.specs.declared.loss.Reason.TheVariants.{Removed, WrongPlace, Scratch, Bypassed, Unreachable, NoScratch, CallNamed, EntryLoop, NoSlot}
use Rattle.pass_trait.specs.declared.loss.Loss.{Loss}
use Rattle.pass_trait.specs.Change.{Change}
use Rattle.pass_trait.specs.Order.{IsInOrder}
use Rattle.pass_trait.specs.Rule.{Rule, IsCopy, IsJump, number_lost, mark_lost, register_lost, item, item_before, first_operand, StandsAt, numbers_on}
use Rattle.pass_trait.specs.Rule.{Has}
use Rattle.sem_simulation.specs.sem_mir.Align.{is_code, is_jump}
use Rattle.pass_trait.specs.Causes.{HasCause, IsFirstCause, IsFewer, IsMore, IsRemoved}

-- what a loss means for what is lost: it is deleted; or it stays and is undef; or it is a register that stays unspilled
pub data LossEffect : Type 0 where
  Gone : LossEffect
  Silenced : LossEffect
  Unspilled : LossEffect

-- the kind of loss for each reason
abbrev pub fate : Reason → LossEffect
fate Removed = Gone
fate WrongPlace = Silenced
fate Scratch = Silenced
fate Bypassed = Gone
fate Unreachable = Gone
fate NoScratch = Unspilled
fate CallNamed = Unspilled
fate EntryLoop = Unspilled
fate NoSlot = Unspilled

-- code that isn't an unconditional branch
abbrev pub is_other_code : ItemKind → Bool
is_other_code kind = is_code kind && not (is_jump kind)

module _ (rule : Rule) (c : Change) where
  -- the pass declares no loss of this kind, for any reason, of the item at this position
  abbrev pub IsUnlost : (at : Pos) → (Reason → Loss) → Type 0
  IsUnlost at loss = (why : Reason) → rule.loses c at (loss why) → ⊥

  -- the register is neither spilled nor renamed
  abbrev pub RegisterStays : ℕ → Type 0
  RegisterStays r = ((slot : ℕ) → rule.spills c r slot → ⊥) × ((now : ℕ) → rule.renames c r now → ⊥)

  -- the debug value names no register that is spilled or renamed
  abbrev pub ValueStays : MarkValue → Type 0
  ValueStays Nothing = Unit {0}
  ValueStays (Constant n) = Unit {0}
  ValueStays (At r) = RegisterStays r
  ValueStays (Pair q) = Unit {0}

  -- the same for the location of a DBG_PHI
  abbrev pub PlaceStays : Option Place → Type 0
  PlaceStays None = Unit {0}
  PlaceStays (Some (Register r)) = RegisterStays r
  PlaceStays (Some (Slot n)) = Unit {0}
  PlaceStays (Some (Const n)) = Unit {0}

  -- a kill for the start of a block: an undef debug value of a variable fragment of which some debug value is lost as bypassed; or an
  -- undef DBG_PHI whose number is lost as bypassed
  abbrev pub IsKillOf : ItemKind → Type 0
  IsKillOf (Mark v Nothing) = (at : Pos) × (m : MarkValue) × (o : Origin) × (l : Loc) × StandsAt c.old at (item (Mark v m) o l) ×
      rule.loses c at (mark_lost o Bypassed)
  IsKillOf (Phi None k) = (at : Pos) × rule.loses c at (number_lost k Bypassed)
  IsKillOf _ = ⊥

  -- a kill whose origin is before the first position of the block
  abbrev pub IsKillAt : (block : ℕ) → Item → Type 0
  IsKillAt b i = IsKillOf i.kind × (i.origin ≡ Before (record { block = b; item = 0 }))

  -- which items the item at a position becomes
  pub data Becomes (at : Pos) : Item → List Item → Type 0 where
    -- a debug value or DBG_PHI is kept as it is, if no loss of it is declared and its register is neither spilled nor renamed
    mark_stays : {v : VarId} {m : MarkValue} {o : Origin} {l : Loc} → IsUnlost at (mark_lost o) → ValueStays m →
        Becomes at (item (Mark v m) o l) (item (Mark v m) o l ∷ [])
    phi_stays : {p : Option Place} {k : ℕ} {o : Origin} {l : Loc} → IsUnlost at (number_lost k) → PlaceStays p →
        Becomes at (item (Phi p k) o l) (item (Phi p k) o l ∷ [])
    -- code is kept, perhaps rewritten, with its number; code without a number gets one exactly if the pass declares one at this position
    code_stays : {i j : Instruction} {k : ℕ} {o : Origin} {l : Loc} → IsUnlost at (number_lost k) →
        Becomes at (item (Code i (Some k)) o l) (item (Code j (Some k)) o l ∷ [])
    code_numbered : {i j : Instruction} {k : ℕ} {o : Origin} {l : Loc} → rule.numbers c at k →
        Becomes at (item (Code i None) o l) (item (Code j (Some k)) o l ∷ [])
    code_unnumbered : {i j : Instruction} {o : Origin} {l : Loc} → ((k : ℕ) → rule.numbers c at k → ⊥) →
        Becomes at (item (Code i None) o l) (item (Code j None) o l ∷ [])
    -- an unconditional branch is kept as one, with its number, perhaps with the origin of another branch
    jump_stays : {i j : Instruction} {k : Option ℕ} {o o' : Origin} {l l' : Loc} → IsJump (row_of i) → IsJump (row_of j) →
        ((n : ℕ) → k ≡ Some n → IsUnlost at (number_lost n)) → Becomes at (item (Code i k) o l) (item (Code j k) o' l' ∷ [])
    -- Code without a number that gets none, or numbered code that defines nothing, is deleted. Fewer code items then have its origin after
    -- the pass than before, or fewer that are no unconditional branches, since such a branch may have got that origin
    code_goes : {i : Instruction} {o : Origin} {l : Loc} → ((k : ℕ) → rule.numbers c at k → ⊥) → IsFewer c is_code o ⊎ IsFewer c is_other_code o →
        Becomes at (item (Code i None) o l) []
    idle_goes : {i : Instruction} {k : ℕ} {o : Origin} {l : Loc} → sets (row_of i) ≡ [] → IsFewer c is_code o ⊎ IsFewer c is_other_code o →
        Becomes at (item (Code i (Some k)) o l) []
    -- code is deleted, and its number, or the one that the pass assigns it, is lost
    number_goes : {i : Instruction} {n : Option ℕ} {o : Origin} {l : Loc} (k : ℕ) (why : Reason) → fate why ≡ Gone → Has rule c at n k →
        rule.loses c at (number_lost k why) → Becomes at (item (Code i n) o l) []
    -- a copy is removed. Either its number is substituted, or a DBG_PHI with its number replaces it, which is undef if the number is
    -- lost as `WrongPlace`
    substituted : {i : Instruction} {n : Option ℕ} {o : Origin} {l : Loc} (k : ℕ) (e : DebugSubstitution) → IsCopy (row_of i) → IsRemoved c o →
        Has rule c at n k → entry_of c.new_subs (first_operand k) ≡ Some e → IsUnlost at (number_lost k) → Becomes at (item (Code i n) o l) []
    salvaged : {i : Instruction} {n : Option ℕ} {k : ℕ} {o : Origin} {l : Loc} {p : Place} → IsCopy (row_of i) → IsRemoved c o →
        Has rule c at n k → rule.salvages c at p → IsUnlost at (number_lost k) → Becomes at (item (Code i n) o l) (item_before (Phi (Some p) k) o ∷ [])
    salvaged_wrong : {i : Instruction} {n : Option ℕ} {k : ℕ} {o : Origin} {l : Loc} {p : Place} → IsCopy (row_of i) → IsRemoved c o →
        Has rule c at n k → rule.salvages c at p → rule.loses c at (number_lost k WrongPlace) →
        Becomes at (item (Code i n) o l) (item_before (Phi None k) o ∷ [])
    -- a debug value of a register, or a DBG_PHI of a location, becomes undef
    mark_silenced : {v : VarId} {r : ℕ} {o : Origin} {l : Loc} (why : Reason) → fate why ≡ Silenced → rule.loses c at (mark_lost o why) →
        Becomes at (item (Mark v (At r)) o l) (item (Mark v Nothing) o l ∷ [])
    phi_silenced : {p : Place} {k : ℕ} {o : Origin} {l : Loc} (why : Reason) → fate why ≡ Silenced → rule.loses c at (number_lost k why) →
        Becomes at (item (Phi (Some p) k) o l) (item (Phi None k) o l ∷ [])
    -- a debug value or a DBG_PHI is deleted, and is lost
    mark_goes : {v : VarId} {m : MarkValue} {o : Origin} {l : Loc} (why : Reason) → fate why ≡ Gone → rule.loses c at (mark_lost o why) →
        Becomes at (item (Mark v m) o l) []
    phi_goes : {p : Option Place} {k : ℕ} {o : Origin} {l : Loc} (why : Reason) → fate why ≡ Gone → rule.loses c at (number_lost k why) →
        Becomes at (item (Phi p k) o l) []
    -- what names a spilled register names its slot: a debug value becomes a DBG_INSTR_REF to a new DBG_PHI of the slot right before it
    mark_spilled : {v : VarId} {r slot k : ℕ} {o : Origin} {l : Loc} → IsUnlost at (mark_lost o) → rule.spills c r slot → rule.numbers c at k →
        Becomes at (item (Mark v (At r)) o l) (item_before (Phi (Some (Slot slot)) k) o ∷ item (Mark v (Pair (first_operand k))) o l ∷ [])
    phi_spilled : {r slot k : ℕ} {o : Origin} {l : Loc} → IsUnlost at (number_lost k) → rule.spills c r slot →
        Becomes at (item (Phi (Some (Register r)) k) o l) (item (Phi (Some (Slot slot)) k) o l ∷ [])
    -- what names a renamed register names the new one
    mark_renamed : {v : VarId} {r now : ℕ} {o : Origin} {l : Loc} → IsUnlost at (mark_lost o) → rule.renames c r now →
        Becomes at (item (Mark v (At r)) o l) (item (Mark v (At now)) o l ∷ [])
    phi_renamed : {r now k : ℕ} {o : Origin} {l : Loc} → IsUnlost at (number_lost k) → rule.renames c r now →
        Becomes at (item (Phi (Some (Register r)) k) o l) (item (Phi (Some (Register now)) k) o l ∷ [])

  -- What the items of a block become, from the one with index n on. Code without a number is added only where more code items have its
  -- origin after the pass than before, and no debug item stands between it and what it was added for
  pub data BecomeAll (block : ℕ) : (n : ℕ) → List Item → List Item → Type 0 where
    over : {n : ℕ} → BecomeAll block n [] []
    next : {n : ℕ} {x : Item} {xs ys zs : List Item} → Becomes (record { block = block; item = n }) x ys → BecomeAll block (suc n) xs zs →
        BecomeAll block n (x ∷ xs) (ys ++ zs)
    -- code is added at the block's start
    added_at_start : {i : Instruction} {l : Loc} {xs ys : List Item} → IsMore c is_code (Before (block_start block)) → BecomeAll block 0 xs ys →
        BecomeAll block 0 xs (item (Code i None) (Before (block_start block)) l ∷ ys)
    -- code is added right before other code, with an origin before that code's position
    added_before : {n : ℕ} {i : Instruction} {l : Loc} {y : Item} {xs ys : List Item} → is_code y.kind ≡ true →
        IsMore c is_code (Before (position_of y.origin)) → BecomeAll block n xs (y ∷ ys) →
        BecomeAll block n xs (item (Code i None) (Before (position_of y.origin)) l ∷ y ∷ ys)
    -- code is added right after the code that an item becomes, with an origin before the position below
    added_after : {n : ℕ} {i : Instruction} {l : Loc} {x y : Item} {xs zs : List Item} → is_code y.kind ≡ true →
        IsMore c is_code (Before (below (position_of y.origin))) → Becomes (record { block = block; item = n }) x (y ∷ []) →
        BecomeAll block (suc n) xs zs →
        BecomeAll block n (x ∷ xs) (y ∷ item (Code i None) (Before (below (position_of y.origin))) l ∷ zs)
    -- an unconditional branch is added at the block's end, perhaps with the origin of a deleted branch
    added_at_end : {n : ℕ} {i : Instruction} {o : Origin} {l : Loc} → IsJump (row_of i) → IsMore c is_code o ⊎ IsMore c is_jump o →
        BecomeAll block n [] (item (Code i None) o l ∷ [])

  -- what the blocks become: a block is kept, with the declared kills at its start, or it is deleted with all its items
  pub data BlocksBecome : List Block → List Block → Type 0 where
    none : BlocksBecome [] []
    stays : {x y : Block} {xs ys : List Block} (kills items : List Item) → y.id ≡ x.id → y.source_end ≡ x.source_end → y.items ≡ kills ++ items →
        rule.kills c x.id kills → All (IsKillAt x.id) kills → BecomeAll x.id 0 x.items items → BlocksBecome xs ys → BlocksBecome (x ∷ xs) (y ∷ ys)
    goes : {x : Block} {xs ys : List Block} → BecomeAll x.id 0 x.items [] → BlocksBecome xs ys → BlocksBecome (x ∷ xs) ys

-- a declared loss: one of an item at some position, or a register that isn't spilled
abbrev pub IsLoss : Rule → Change → Loss → Type 0
IsLoss rule c loss = ((place : Pos) × rule.loses c place loss) ⊎ ((r : ℕ) × (why : Reason) × (loss ≡ register_lost r why) × rule.leaves c r why)

-- some item after the pass has this number, or the number is lost
abbrev pub IsGivenOrLost : Change → List Loss → ℕ → Type 0
IsGivenOrLost c losses k = Contains (numbers_on c.new) k ⊎ ((why : Reason) × Contains losses (number_lost k why))

-- an added substitution is for operand 0 of a number that no item has any more, without a subregister. The chain of substitutions from
-- its destination ends at a pair whose number an item has, or is lost
pub record IsFor (c : Change) (losses : List Loss) (e : DebugSubstitution) : Type 0 where
  pub whole : (e.src.operand ≡ 0) × (e.subreg ≡ 0)
  pub gone : Contains (numbers_on c.new) e.src.number → ⊥
  pub stands : (q : OperandPair) × Ends c.new_subs e.dst q × IsGivenOrLost c losses q.number

-- The debug rule: every block becomes what `BlocksBecome` allows; the declared substitutions are appended, each for a number that no
-- item has any more; the losses are exactly those that the pass declares, in order and without duplicates; and each loss has its cause.
-- Registers are spilled into slots that are new to the function, and only virtual registers are renamed, to physical ones that may be
-- allocated (RISC-V ELF psABI: none of x0 to x4)
pub record KeepsItems (rule : Rule) (c : Change) (losses : List Loss) : Type 0 where
  pub blocks : BlocksBecome rule c c.old.blocks c.new.blocks
  pub subs : (more : List DebugSubstitution) × (c.new_subs ≡ c.old_subs ++ more) × rule.substitutes c more × All (IsFor c losses) more
  pub said : All (IsLoss rule c) losses
  pub told : (loss : Loss) → IsLoss rule c loss → Contains losses loss
  pub ordered : IsInOrder losses
  pub caused : (place : Pos) (loss : Loss) → rule.loses c place loss → HasCause rule c place loss
  pub left : (r : ℕ) (why : Reason) → rule.leaves c r why → IsFirstCause rule c r why
  pub spilled : (r slot : ℕ) → rule.spills c r slot → Contains c.new.slots slot × (Contains c.old.slots slot → ⊥)
  pub renamed : (r now : ℕ) → rule.renames c r now → (32 ≤ r) × (4 < now) × (now < 32)
