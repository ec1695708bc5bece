-- The causes of losses: for each reason, the condition under which a pass may state it, over the function before the pass and
-- the one after it.
use Rattle.std.specs.Prelude.{◌≡◌, ◌⊎◌, ℕ, ◌+◌, ◌<◌, ◌≤◌, List, [], ◌∷◌, length, take, filter, count_by, All, Contains, Option, Some, None, Bool, true, false}
use Rattle.std.specs.Prelude.{not, ◌&&◌, nat_eq}
use Rattle.std.specs.List.{list_any}
use Rattle.sem_simulation.specs.rv64_instr.declared.operand.Operand.{Operand}
use Rattle.sem_simulation.specs.rv64_instr.declared.operand.Operand.TheVariants.{Def, Use, ImplicitDef, ImplicitUse}
use Rattle.sem_simulation.specs.rv64_instr.declared.operand.Operand.TheVariants.{Imm, Slot as OfSlot, Object as OfObject, Part, Outgoing, GlobalRegisters, Block as OfBlock}
use Rattle.sem_simulation.specs.rv64_instr.declared.operand.Operand.TheVariants.{Symbol, Mask}
use Rattle.sem_simulation.specs.rv64_instr.declared.place.Place.{Place}
use Rattle.sem_simulation.specs.rv64_instr.declared.place.Place.TheVariants.{Register}
use Rattle.sem_simulation.specs.rv64_instr.Instruction.{Instruction}
use Rattle.sem_simulation.specs.rv64_instr.Row.{row_of}
use Rattle.sem_simulation.specs.rv64_instr.LocationEffects.{has_implicit_uses, defines_of}
use Rattle.sem_simulation.specs.mir_func.declared.position.Pos.{Pos}
use Rattle.sem_simulation.specs.mir_func.declared.position.Origin.{Origin}
use Rattle.sem_simulation.specs.mir_func.declared.position.Origin.TheVariants.{Kept, Before}
use Rattle.sem_simulation.specs.mir_func.declared.location.Loc.{Loc}
use Rattle.sem_simulation.specs.mir_func.declared.variable.MarkValue.TheVariants.{Nothing, Constant, At, Pair}
use Rattle.sem_simulation.specs.mir_func.declared.item.Item.{Item}
use Rattle.sem_simulation.specs.mir_func.declared.item.ItemKind.{ItemKind}
use Rattle.sem_simulation.specs.mir_func.declared.item.ItemKind.TheVariants.{Code, Mark, Phi}
use Rattle.sem_simulation.specs.mir_func.declared.block.Block.{Block}
use Rattle.sem_simulation.specs.mir_func.Function.{Function}
use Rattle.sem_simulation.specs.mir_func.Limits.{MAX_SLOTS}
use Rattle.sem_simulation.specs.mir_func.Sound.{ids_of, items_of}
use Rattle.sem_simulation.specs.mir_func.Graph.{Program, below, block_start, program_of, Edge, Leads}
use Rattle.sem_simulation.specs.mir_func.Resolve.{resolve}
use Rattle.sem_simulation.specs.mir_func.Positions.{position_of, is_same_position}
use Rattle.sem_simulation.specs.sem_mir.Align.{is_code}
use Rattle.sem_simulation.specs.sem_mir.InitialState.{first_of}
use Rattle.sem_simulation.specs.sem_mir.Follow.{OnRow, GoesTo}
use Rattle.sem_simulation.specs.sem_mir.Live.{Live}
use Rattle.pass_trait.specs.declared.loss.Reason.{Reason}
use Rattle.pass_trait.specs.declared.loss.Reason.TheVariants.{Removed, WrongPlace, Scratch, Bypassed, Unreachable, NoScratch, CallNamed, EntryLoop, NoSlot}
use Rattle.pass_trait.specs.declared.loss.Lost.{Lost}
use Rattle.pass_trait.specs.declared.loss.Lost.TheVariants as lost
use Rattle.pass_trait.specs.declared.loss.Loss.{Loss}
use Rattle.pass_trait.specs.Change.{Change}
use Rattle.pass_trait.specs.Order.{reason_rank}
use Rattle.pass_trait.specs.Rule.{Rule, IsCopy, IsJump, number_lost, item, StandsAt, Has, IsNow}

-- the operand is this register; an implicit operand only if `counts`
abbrev pub is_of_register : (counts : Bool) → ℕ → Operand → Bool
is_of_register counts r (Def s) = nat_eq s r
is_of_register counts r (Use s) = nat_eq s r
is_of_register counts r (ImplicitDef s) = counts && nat_eq s r
is_of_register counts r (ImplicitUse s) = counts && nat_eq s r
is_of_register counts r (Imm i) = false
is_of_register counts r (OfSlot n) = false
is_of_register counts r (OfObject n) = false
is_of_register counts r (Part half y) = false
is_of_register counts r (Outgoing n) = false
is_of_register counts r GlobalRegisters = false
is_of_register counts r (OfBlock n) = false
is_of_register counts r (Symbol name) = false
is_of_register counts r Mask = false

-- code that names the register: in an explicit operand, or in an implicit one of a row with implicit uses (a call or a return)
abbrev pub names : ℕ → ItemKind → Bool
names r (Code i k) = list_any (is_of_register (has_implicit_uses (row_of i)) r) i.operands
names r (Mark v m) = false
names r (Phi p k) = false

-- the operand is an implicit one of this register
abbrev pub is_implicit_of : ℕ → Operand → Bool
is_implicit_of r (ImplicitDef s) = nat_eq s r
is_implicit_of r (ImplicitUse s) = nat_eq s r
is_implicit_of r _ = false

-- a call or code that ends the function, which names the register in an implicit operand
abbrev pub names_implicitly : ℕ → ItemKind → Bool
names_implicitly r (Code i k) = has_implicit_uses (row_of i) && list_any (is_implicit_of r) i.operands
names_implicitly r (Mark v m) = false
names_implicitly r (Phi p k) = false

-- some code of the function names the register
abbrev pub is_named : Function → ℕ → Bool
is_named f r = list_any (λ i. names r i.kind) (items_of f.blocks)

-- the scratch registers: the lowest two of x5, x6, x7 and x28 to x31 that no code names
abbrev pub scratch_of : Function → List ℕ
scratch_of f = take 2 (filter (λ r. not (is_named f r)) (5 ∷ 6 ∷ 7 ∷ 28 ∷ 29 ∷ 30 ∷ 31 ∷ []))

-- the two origins are equal
abbrev pub is_origin : Origin → Origin → Bool
is_origin (Kept p) (Kept q) = is_same_position p q
is_origin (Before p) (Before q) = is_same_position p q
is_origin (Kept p) (Before q) = false
is_origin (Before p) (Kept q) = false

-- code that defines the place
abbrev pub defines : Place → ItemKind → Bool
defines x (Code i k) = defines_of (row_of i) x
defines x (Mark v m) = false
defines x (Phi p k) = false

-- the location that a debug value or DBG_PHI reads is this one
abbrev pub AsksFor : Place → ItemKind → Type 0
AsksFor x (Mark v (At r)) = x ≡ Register r
AsksFor x (Phi (Some p) k) = x ≡ p
AsksFor x (Mark v Nothing) = ⊥
AsksFor x (Mark v (Constant n)) = ⊥
AsksFor x (Mark v (Pair q)) = ⊥
AsksFor x (Phi None k) = ⊥
AsksFor x (Code i k) = ⊥

-- what is lost if this debug value or DBG_PHI is: the debug value, or the DBG_PHI's number
abbrev pub IsLostWith : ItemKind → Origin → Lost → Type 0
IsLostWith (Mark v m) o what = what ≡ lost.Mark (position_of o)
IsLostWith (Phi p k) o what = what ≡ lost.Number k
IsLostWith (Code i k) o what = ⊥

-- a jump or a debug item
abbrev pub IsJumpOrDebug : ItemKind → Type 0
IsJumpOrDebug (Code i k) = IsJump (row_of i)
IsJumpOrDebug (Mark v m) = Unit {0}
IsJumpOrDebug (Phi p k) = Unit {0}

-- some path of zero or more edges goes from a position with `Begins` to this one, and no position on it before this one has
-- `Stops`
pub data Comes (f : Program) (Begins Stops : Pos → Type 0) : Pos → Type 0 where
  begins : {q : Pos} → Begins q → Comes f Begins Stops q
  goes_on : {p q : Pos} → Comes f Begins Stops p → (Stops p → ⊥) → Edge f p q → Comes f Begins Stops q

module _ (c : Change) where
  -- the old function as a program, with its substitutions
  abbrev pub old_program : Program
  old_program = program_of false c.old.blocks (resolve c.old_subs)

  -- its entry: the start of its first block
  abbrev pub old_start : Pos
  old_start = block_start (first_of c.old.blocks)

  -- among the code that passes a test, fewer items have this origin after the pass than before
  abbrev pub IsFewer : (ItemKind → Bool) → Origin → Type 0
  IsFewer test o = count_by (λ i. test i.kind && is_origin i.origin o) (items_of c.new.blocks) <
      count_by (λ i. test i.kind && is_origin i.origin o) (items_of c.old.blocks)

  -- among that code, more items have this origin after the pass than before
  abbrev pub IsMore : (ItemKind → Bool) → Origin → Type 0
  IsMore test o = count_by (λ i. test i.kind && is_origin i.origin o) (items_of c.old.blocks) <
      count_by (λ i. test i.kind && is_origin i.origin o) (items_of c.new.blocks)

  -- Fewer code items have this origin after the pass than before, and the new function still has the block of its position. In
  -- a function that a source simulates, at most one item has a given `Kept` origin, so then none has it any more
  abbrev pub IsRemoved : Origin → Type 0
  IsRemoved o = IsFewer is_code o × Contains (ids_of c.new.blocks) (position_of o).block

  -- a code item with this origin was removed, and fewer items that define the place have it
  abbrev pub LosesDefinition : Place → Origin → Type 0
  LosesDefinition x o = IsRemoved o × IsFewer (defines x) o

  -- code at a position defines the place
  abbrev pub IsDefinition : Place → Pos → Type 0
  IsDefinition x p = (i : Item) × StandsAt c.old p i × (defines x i.kind ≡ true)

  -- code at a position defines the place, and was removed
  abbrev pub IsRemovedDefinition : Place → Pos → Type 0
  IsRemovedDefinition x p = (i : Item) × StandsAt c.old p i × (defines x i.kind ≡ true) × LosesDefinition x i.origin

  -- code at a position defines the place, and wasn't removed
  abbrev pub IsKeptDefinition : Place → Pos → Type 0
  IsKeptDefinition x p = (i : Item) × StandsAt c.old p i × (defines x i.kind ≡ true) × (LosesDefinition x i.origin → ⊥)

  -- some edge leads to this position from one that has the property
  abbrev pub IsAfter : (Pos → Type 0) → Pos → Type 0
  IsAfter P q = (p : Pos) × P p × Edge old_program p q

  -- before the pass some path leads from the entry to the block
  abbrev pub IsReached : (block : ℕ) → Type 0
  IsReached b = Leads old_program old_start (block_start b)

  -- no block of the new function has this number
  abbrev pub IsGoneBlock : (block : ℕ) → Type 0
  IsGoneBlock b = Contains (ids_of c.new.blocks) b → ⊥

  -- a reachable block of the old function that has only unconditional branches and debug items, and isn't in the new function
  pub record IsBypassed (b : Block) : Type 0 where
    pub stood : Contains c.old.blocks b
    pub jumps : All (λ i. IsJumpOrDebug i.kind) b.items
    pub reached : IsReached b.id
    pub gone : IsGoneBlock b.id

  -- the new function has a spill slot that the old one hasn't
  abbrev pub HasNewSlot : Type 0
  HasNewSlot = (slot : ℕ) × Contains c.new.slots slot × (Contains c.old.slots slot → ⊥)

module _ (rule : Rule) (c : Change) where
  -- a definition of another register than r, which after the pass is the same register as r, at a position that doesn't define
  -- r
  abbrev pub IsOtherDefinition : (r now : ℕ) → Pos → Type 0
  IsOtherDefinition r now p = (s : ℕ) × IsNow rule c s now × IsDefinition c (Register s) p × (IsDefinition c (Register r) p → ⊥)

  -- at this position the place may contain another value after the pass than before
  pub data IsWrong : Place → Pos → Type 0 where
    -- some path leads here from right after a removed definition of the place, and passes no kept definition of it
    removed : {x : Place} {at : Pos} → Comes (old_program c) (IsAfter c (IsRemovedDefinition c x)) (IsKeptDefinition c x) at → IsWrong x at
    -- a virtual register that no code names
    unnamed : {r : ℕ} {at : Pos} → 32 ≤ r → is_named c.old r ≡ false → IsWrong (Register r) at
    -- the register was renamed, and some path leads here from the entry that passes no definition of it
    unset : {r now : ℕ} {at : Pos} → rule.renames c r now → Comes (old_program c) (λ q. q ≡ old_start c) (IsDefinition c (Register r)) at →
        IsWrong (Register r) at
    -- some path leads here, without a definition of the register, from right after a definition of another register that after
    -- the pass is the same one
    overwritten : {r now : ℕ} {at : Pos} → IsNow rule c r now →
        Comes (old_program c) (IsAfter c (IsOtherDefinition r now)) (IsDefinition c (Register r)) at → IsWrong (Register r) at

  -- the possible causes of a loss of the item at a position
  pub data HasCause (at : Pos) : Loss → Type 0 where
    -- a number: its code was removed, and isn't a copy
    code_removed : {i : Instruction} {n : Option ℕ} {o : Origin} {l : Loc} {k : ℕ} → StandsAt c.old at (item (Code i n) o l) → Has rule c at n k →
        (IsCopy (row_of i) → ⊥) → IsRemoved c o → HasCause at (number_lost k Removed)
    -- a debug value or DBG_PHI whose place may be wrong at its position; and the DBG_PHI for a removed copy, if its place may
    -- be wrong right after the copy
    place_wrong : {i : Item} {x : Place} {what : Lost} → StandsAt c.old at i → IsLostWith i.kind i.origin what → AsksFor x i.kind →
        IsWrong x at → HasCause at (record { what = what; reason = WrongPlace })
    salvage_wrong : {i : Instruction} {n : Option ℕ} {o : Origin} {l : Loc} {k : ℕ} {x : Place} → StandsAt c.old at (item (Code i n) o l) →
        Has rule c at n k → IsCopy (row_of i) → rule.salvages c at x → IsWrong x (below at) → HasCause at (number_lost k WrongPlace)
    -- a debug value or DBG_PHI of a scratch register, if some register was spilled
    taken_as_scratch : {i : Item} {r : ℕ} {what : Lost} → StandsAt c.old at i → IsLostWith i.kind i.origin what → AsksFor (Register r) i.kind →
        Contains (scratch_of c.old) r → HasNewSlot c → HasCause at (record { what = what; reason = Scratch })
    -- a debug value or DBG_PHI of a bypassed block
    block_bypassed : {i : Item} {b : Block} {what : Lost} → StandsAt c.old at i → IsLostWith i.kind i.origin what → b.id ≡ at.block →
        IsBypassed c b → HasCause at (record { what = what; reason = Bypassed })
    -- a debug value, a DBG_PHI or numbered code of an unreachable block
    block_unreachable : {i : Item} {what : Lost} → StandsAt c.old at i → IsLostWith i.kind i.origin what →
        (IsReached c at.block → ⊥) → IsGoneBlock c at.block → HasCause at (record { what = what; reason = Unreachable })
    code_unreachable : {i : Instruction} {o : Origin} {l : Loc} {k : ℕ} → StandsAt c.old at (item (Code i (Some k)) o l) →
        (IsReached c at.block → ⊥) → IsGoneBlock c at.block → HasCause at (number_lost k Unreachable)

  -- The condition under which a register isn't spilled for a reason: fewer than two scratch registers are free; a call or code that
  -- ends the function names the register in an implicit operand, or added code names it; it is live into the first block, which is the target of some branch; the new function has
  -- `MAX_SLOTS` slots and stack objects, and only lower registers are spilled
  abbrev pub Prevents : Reason → ℕ → Type 0
  Prevents NoScratch r = length (scratch_of c.old) < 2
  Prevents CallNamed r = (i : Item) × Contains (items_of c.old.blocks) i ×
      ((names_implicitly r i.kind ≡ true) ⊎ ((names r i.kind ≡ true) × (i.origin ≡ Before (position_of i.origin))))
  Prevents EntryLoop r = Live (old_program c) (Register r) (old_start c) ×
      ((p : Pos) × (i : Item) × StandsAt c.old p i × OnRow (GoesTo (first_of c.old.blocks)) i.kind)
  Prevents NoSlot r = (length c.new.slots + length c.new.objects ≡ MAX_SLOTS) × ((s slot : ℕ) → rule.spills c s slot → s < r)
  Prevents Removed r = ⊥
  Prevents WrongPlace r = ⊥
  Prevents Scratch r = ⊥
  Prevents Bypassed r = ⊥
  Prevents Unreachable r = ⊥

  -- the register is named by code, and this is the first reason, by rank, whose condition is true
  pub record IsFirstCause (r : ℕ) (why : Reason) : Type 0 where
    pub named : is_named c.old r ≡ true
    pub prevents : Prevents why r
    pub first : (earlier : Reason) → reason_rank earlier < reason_rank why → Prevents earlier r → ⊥
