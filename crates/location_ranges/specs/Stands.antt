-- The walk's state before an item.
use Rattle.std.specs.Prelude.{◌≡◌, ◌⊎◌, ℕ, ◌<◌, ◌≤◌, List, length, map, Some, true, false, slice_get}
use Rattle.mir_func.specs.declared.block.Block.{Block}
use Rattle.mir_func.specs.declared.debug_substitution.DebugSubstitution.{DebugSubstitution}
use Rattle.mir_func.specs.declared.exit.Exit.{Exit}
use Rattle.mir_func.specs.declared.exit.Exit.TheVariants.{Onward, Perhaps, Always, Final}
use Rattle.mir_func.specs.declared.item.Item.{Item}
use Rattle.mir_func.specs.Graph.{Program, block_start, framed_program}
use Rattle.mir_func.specs.Resolve.{resolve}
use Rattle.mir_func.specs.Successors.{pos_in}
use Rattle.value_tracker.specs.value_solver.declared.entry.BlockEntry.{BlockEntry}
use Rattle.value_tracker.specs.value_solver.Entry.{thing, IsEntry}
use Rattle.value_tracker.specs.value_proof.Classes.{Classes, AreClasses, IsReached}
use Rattle.value_tracker.specs.value_proof.PreferredByClass.{AreEnoughFor, known_before}
use Rattle.value_tracker.specs.declared.index.TrackedIndex.{TrackedIndex}
use Rattle.value_tracker.specs.Things.{AreThings}
use Rattle.value_tracker.specs.LocationTracker.{PLACES, Holds}
use Rattle.value_tracker.specs.Start.{ConstantsNow}
use Rattle.location_ranges.specs.declared.values.Values.{Values}
use Rattle.location_ranges.specs.declared.transfer_tracker.TransferTracker.{TransferTracker}

-- the semantics of the function with its frame
abbrev pub program : List Block → List DebugSubstitution → Program
program blocks subs = framed_program blocks (resolve subs)

-- the result of the value analysis of a function: the tracked entities, parts of variables first, and the exact live-in values of
-- each block
pub record AreValuesOf (blocks : List Block) (v : Values) : Type 0 where
  pub things : AreThings v.variables.now v.things.now
  pub of : AreEnoughFor (program blocks v.subs.now) (map thing v.things.now)
  pub entries : (b : ℕ) (e : BlockEntry) → slice_get v.entries.now b ≡ Some e → IsEntry (program blocks v.subs.now) v.things.now b e
  pub for_all : length v.entries.now ≡ length blocks

-- before a reached item the state holds the classes of the tracked entities there, and the constants of classes
pub record Reaches (g : Program) (v : Values) (index : TrackedIndex) (s : TransferTracker) : Type 0 where
  pub class : Classes
  pub held : Holds v.variables.now (map thing v.things.now) index s.settled.items s.held class
  pub classes : AreClasses g (block_start 0) (pos_in s.block s.item) (map thing v.things.now) class
  pub constants : ConstantsNow v.things.now class s.constants.items
  -- and those of the pairs that items above define in the same block
  pub held_above : Holds v.variables.now (known_before g (map thing v.things.now) s.block s.item) index s.settled.items s.held class
  pub classes_above : AreClasses g (block_start 0) (pos_in s.block s.item) (known_before g (map thing v.things.now) s.block s.item) class

-- the state is that before an item: `Reaches` if some path leads to it, and otherwise it is marked as unreached
pub record Stands (blocks : List Block) (v : Values) (index : TrackedIndex) (s : TransferTracker) : Type 0 where
  pub reached : s.reached ≡ true → Reaches (program blocks v.subs.now) v index s
  pub unreached : s.reached ≡ false → IsReached (program blocks v.subs.now) (block_start 0) (pos_in s.block s.item) → ⊥

-- the state has a class for each machine location and for each part of a variable
pub record Fits (s : TransferTracker) (v : Values) : Type 0 where
  pub places : length s.held.places.items ≡ PLACES
  pub parts : length s.held.parts.items ≡ length v.variables.now

-- control may continue to the item below
abbrev pub Falls : Exit → Type 0
Falls Onward = Unit {0}
Falls (Perhaps n) = Unit {0}
Falls (Always n) = ⊥
Falls Final = ⊥

-- the block at this index has these items
abbrev pub IsBlockAt : List Block → ℕ → List Item → Type 0
IsBlockAt blocks b items = (block : Block) × (slice_get blocks b ≡ Some block) × (block.items ≡ items)

-- past items of the block: the constants are the same, and so are the classes of parts if no debug value was passed
pub record Stays (before after : TransferTracker) : Type 0 where
  pub item : before.item ≤ after.item
  pub constants : after.constants ≡ before.constants
  pub marked : (after.marked ≡ before.marked) ⊎ (before.item < after.marked)
  pub parts : after.marked ≤ before.item → after.held.parts ≡ before.held.parts
