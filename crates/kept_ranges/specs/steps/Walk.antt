-- The invariant of the walk from entry to entry.
use Rattle.std.specs.Prelude.{◌≡◌, ℕ, ◌<◌, List, length, Contains, Option, Some, None, slice_get}
use Rattle.rv64_instr.specs.declared.place.Place.{Place}
use Rattle.mir_func.specs.declared.block.Block.{Block}
use Rattle.mir_func.specs.declared.variable.VarId.{VarId}
use Rattle.mir_func.specs.Graph.{block_start}
use Rattle.emit_code.specs.declared.code.EncodedInstruction.{EncodedInstruction}
use Rattle.dwarf_loclists.specs.declared.range.Location.{Location}
use Rattle.dwarf_loclists.specs.Ranges.{ArePlaces, location_in}
use Rattle.location_of_variable.specs.declared.group.Group.{Group}
use Rattle.location_ranges.specs.declared.ranges.Walk.{Walk}
use Rattle.location_ranges.specs.declared.track.Track.{Track}
use Rattle.location_ranges.specs.declared.values.Values.{Values}
use Rattle.location_ranges.specs.Covered.{covered}
use Rattle.location_ranges.specs.Lists.{HasByte}
use Rattle.location_ranges.specs.Stands.{program, AreValuesOf}
use Rattle.location_ranges.specs.steps.Saying.{TurnedBelow, AreTracksTo}
use Rattle.kept_ranges.specs.Lists.{IsLocationAt}
use Rattle.kept_ranges.specs.steps.Places.{AreKeptPlacesAt}

-- the tracks have turned at an address to the places that a callee keeps, which is passed these slots, where the walk stands. Its state is as before
pub record HasTurned (values : Values) (groups : List Group) (passed : List ℕ) (address : ℕ) (before after : Walk) : Type 0 where
  pub places : List (Option Place)
  pub are : AreKeptPlacesAt passed before.stand places
  pub count : length places ≡ length values.variables.now
  pub turned : TurnedBelow groups places address before.tracks.items (length groups) after.tracks.items
  pub stand : after.stand ≡ before.stand

-- past an entry from which a callee is passed these slots the tracks have turned at its lookup address; past any other entry nothing has changed
abbrev pub IsPast : Values → List Group → (passed : Option (List ℕ)) → (address : ℕ) → (before after : Walk) → Type 0
IsPast values groups None a before after = after ≡ before
IsPast values groups (Some passed) a before after = HasTurned values groups passed a before after

-- an address has the location required for the variable by each entry that has a byte there
abbrev pub IsTold : List Block → Values → List EncodedInstruction → VarId → (address : ℕ) → Option Location → Type 0
IsTold blocks v entries variable a o = (e : EncodedInstruction) → Contains entries e → HasByte e a →
    IsLocationAt (program blocks v.subs.now) (block_start 0) variable e a o

-- a track tells what is required at each address up to an end, and nothing before the first entry
pub record TellsTo (Told : (address : ℕ) → Option Location → Type 0) (base a : ℕ) (t : Track) : Type 0 where
  pub inside : (x : ℕ) → x < a → Told x (location_in (covered t a) x)
  pub below : (x : ℕ) → x < base → location_in (covered t a) x ≡ None
  pub places : (b : ℕ) → ArePlaces (covered t b)

-- up to an address the tracks ascend, and each tells what is required
pub record HaveTold (blocks : List Block) (v : Values) (entries : List EncodedInstruction) (variables : List VarId) (base a : ℕ) (tracks : List Track) :
    Type 0 where
  pub ascend : AreTracksTo tracks a
  pub tell : AreValuesOf blocks v → (k : ℕ) (variable : VarId) (t : Track) → slice_get variables k ≡ Some variable → slice_get tracks k ≡ Some t →
      TellsTo (IsTold blocks v entries variable) base a t
