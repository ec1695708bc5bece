-- The invariant of the walk from entry to entry.
use Rattle.std.specs.Prelude.{◌≡◌, ℕ, ◌≤◌, List, length, Some, true, slice_get}
use Rattle.mir_func.specs.declared.block.Block.{Block}
use Rattle.mir_func.specs.declared.variable.VarId.{VarId}
use Rattle.mir_func.specs.Graph.{block_start}
use Rattle.emit_code.specs.declared.code.EncodedInstruction.{EncodedInstruction}
use Rattle.location_of_variable.specs.declared.group.Group.{Group}
use Rattle.location_ranges.specs.declared.ranges.Walk.{Walk}
use Rattle.location_ranges.specs.declared.seen.Seen.{Seen}
use Rattle.location_ranges.specs.declared.track.Track.{Track}
use Rattle.location_ranges.specs.declared.values.Values.{Values}
use Rattle.location_ranges.specs.Stands as stand
use Rattle.location_ranges.specs.Stands.{program, AreValuesOf}
use Rattle.location_ranges.specs.steps.Places.{IsEmpty}
use Rattle.location_ranges.specs.steps.Seen.{AreSeen}
use Rattle.location_ranges.specs.steps.Saying.{begin_at, AreTracksTo, AllSay, AreTurned}

-- the entry's point is in the blocks: an item of a block, or the block's end
abbrev pub IsPointIn : List Block → EncodedInstruction → Type 0
IsPointIn blocks e = (block : Block) × (slice_get blocks e.point.block ≡ Some block) × (e.point.item ≤ length block.items)

-- what the last lookup saw at the walk's state, and the tracks have turned
pub record HasSeen (seen : Seen) (w : Walk) : Type 0 where
  pub reached : w.stand.reached ≡ true
  pub turned : w.turned ≡ true
  pub are : AreSeen seen w.stand w.places.items

-- the tables of the walk have the right lengths, and that of first locations is empty. Once the tracks have turned they are at the
-- locations by the places
pub record Fits (v : Values) (groups : List Group) (w : Walk) : Type 0 where
  pub stand : stand.Fits w.stand v
  pub firsts : IsEmpty w.firsts.items
  pub places : length w.places.items ≡ length v.variables.now
  pub changed : length w.changed.items ≡ length v.variables.now
  pub tracks : length w.tracks.items ≡ length groups
  pub turned : w.turned ≡ true → AreTurned groups w.places.items w.tracks.items
  pub seen : (z : Seen) → w.seen ≡ Some z → HasSeen z w

-- up to the entry at index i the tracks ascend, and they are exact for the first i entries
pub record HaveSaid (blocks : List Block) (v : Values) (entries : List EncodedInstruction) (variables : List VarId) (base i : ℕ)
    (tracks : List Track) : Type 0 where
  pub ascend : AreTracksTo tracks (begin_at base entries i)
  pub say : AreValuesOf blocks v → AllSay (program blocks v.subs.now) (block_start 0) entries variables i (begin_at base entries i) tracks
