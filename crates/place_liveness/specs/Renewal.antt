-- Liveness of one place in a function from which code was removed, by what it was before.
use Rattle.std.specs.Prelude.{◌≡◌, ◌⊎◌, ℕ, ◌<◌, List, [], length, Bool, true, false, not, ◌&&◌, ◌||◌, Option, None, Contains, slice_index, slice_index_or}
use Rattle.std.specs.List.{list_any}
use Rattle.pass_liveness.specs.rv64_instr.declared.place.Place.{Place}
use Rattle.pass_liveness.specs.mir_func.declared.block.Block.{Block}
use Rattle.pass_liveness.specs.mir_func.declared.debug_substitution.OperandPair.{OperandPair}
use Rattle.pass_liveness.specs.mir_func.Function.{Function}
use Rattle.pass_liveness.specs.mir_func.Graph.{program_of, block_start}
use Rattle.pass_liveness.specs.mir_func.Sound.{ids_of}
use Rattle.pass_liveness.specs.sem_mir.Live.{Live}
use Rattle.place_liveness.specs.Alone.{is_target, live_by, passes_up, ways_of, AreThose}

-- The second function is the first without some code, which stood in the blocks `lost`, and the place is live where it was or at fewer places: all other
-- blocks tell the same of it, and what a block of the second tells of it is so in the first
pub record IsThinner (old new : Function) (x : Place) (lost : List ℕ) : Type 0 where
  pub ids : ids_of new.blocks ≡ ids_of old.blocks
  pub ways : (b : ℕ) → ways_of new.blocks b ≡ ways_of old.blocks b
  pub same : (b : ℕ) (target : Option ℕ) → b < length new.blocks →
      Contains lost b ⊎ (live_by new.blocks x b target ≡ live_by old.blocks x b target)
  pub fewer : (b : ℕ) (target : Option ℕ) → b < length new.blocks → live_by new.blocks x b target ≡ true →
      (sees_pointer : Bool) (resolve : OperandPair → Option OperandPair) →
      ((n : ℕ) → is_target target n ≡ true → Live (program_of sees_pointer old.blocks resolve) x (block_start n)) →
      Live (program_of sees_pointer old.blocks resolve) x (block_start (slice_index (ids_of old.blocks) b))

-- liveness at the block's start is in doubt, if it is at a successor's, from which it goes up
abbrev pub doubts_up : List Block → Place → (from to : ℕ) → Bool
doubts_up blocks x m b = passes_up blocks x m b && not (live_by blocks x b None)

-- what is live at a successor is live at the start of the block, which is in doubt
abbrev pub stays_up : List Block → Place → (doubted : List Bool) → (from to : ℕ) → Bool
stays_up blocks x doubted m b = slice_index_or doubted b false && passes_up blocks x m b

-- the place was live at the start of the block, and the block uses it no more before it sets it
abbrev pub is_doubted : List Block → Place → (before : List Bool) → (block : ℕ) → Bool
is_doubted blocks x before b = slice_index_or before b false && not (live_by blocks x b None)

-- the place was live at the start of the successor, which isn't in doubt, and so it is at that of the block
abbrev pub is_held_by : List Block → Place → (before doubted : List Bool) → (block successor : ℕ) → Bool
is_held_by blocks x before doubted b m = slice_index_or before m false && (not (slice_index_or doubted m false) && passes_up blocks x m b)

-- the block is in doubt, and one of these successors holds it
abbrev pub is_held : List Block → Place → (before doubted : List Bool) → (block : ℕ) → (successors : List ℕ) → Bool
is_held blocks x before doubted b ms = slice_index_or doubted b false && list_any (λ m. is_held_by blocks x before doubted b m) ms

-- those of the first `count` blocks of which that is so
abbrev pub AreHeld : (blocks : List Block) (x : Place) (before doubted : List Bool) (down : List (List ℕ)) (count : ℕ) (held : List ℕ) → Type 0
AreHeld blocks x before doubted down count held =
    AreThose (length blocks) (λ b. is_held blocks x before doubted b (slice_index_or down b [])) count held

-- the place is still live at the start of the block
abbrev pub is_still_live : (before doubted stays : List Bool) → (block : ℕ) → Bool
is_still_live before doubted stays b = slice_index_or before b false && (not (slice_index_or doubted b false) || slice_index_or stays b false)

-- the flags tell at the starts of which blocks that is so
pub record AreStillLive (before doubted stays after : List Bool) : Type 0 where
  pub long : length after ≡ length before
  pub each : (b : ℕ) → b < length before → slice_index_or after b false ≡ is_still_live before doubted stays b
