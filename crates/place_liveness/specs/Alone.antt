-- Liveness of one place at the starts of blocks, by what it is where it is live at the start of one block alone.
use Rattle.std.specs.Prelude.{◌≡◌, ℕ, ◌+◌, ◌<◌, List, [], length, Bool, true, false, nat_eq, Option, Some, None, Contains}
use Rattle.std.specs.Prelude.{slice_get, slice_index, slice_index_or}
use Rattle.graph_spread.specs.dataflow.Graph.{IsEdge, IsGraph}
use Rattle.pass_liveness.specs.rv64_instr.declared.place.Place.{Place}
use Rattle.pass_liveness.specs.mir_func.declared.block.Block.{Block}
use Rattle.pass_liveness.specs.mir_func.declared.item.Item.{Item}
use Rattle.pass_liveness.specs.mir_func.Function.{Function}
use Rattle.pass_liveness.specs.mir_func.Graph.{block_start}
use Rattle.pass_liveness.specs.mir_func.Sound.{ids_of}
use Rattle.pass_liveness.specs.mir_func.Successors.{ways}
use Rattle.pass_liveness.specs.sem_mir.Live.{Live}
use Rattle.pass_liveness.specs.Index.{index_in}
use Rattle.pass_liveness.specs.Walk.{live_from}
use Rattle.pass_liveness.specs.Liveness.{DecidesIn, items_at}

-- the block with this number is the target, if there is one
abbrev pub is_target : (target : Option ℕ) → ℕ → Bool
is_target None n = false
is_target (Some m) n = nat_eq m n

-- a place is live before these items, the last ones of a block, if it is live at the start of the target and at that of no other block
abbrev pub live_alone : List Item → (next : Option ℕ) → Place → (target : Option ℕ) → Bool
live_alone items next x target = live_from (λ n y. is_target target n) items next x

-- the same at the start of the block at an index
abbrev pub live_by : List Block → Place → (block : ℕ) → (target : Option ℕ) → Bool
live_by blocks x b target = live_alone (items_at blocks b) (slice_get (ids_of blocks) (b + 1)) x target

-- the same, if the target is at an index too
abbrev pub passes_up : List Block → Place → (from to : ℕ) → Bool
passes_up blocks x m b = live_by blocks x b (slice_get (ids_of blocks) m)

-- the list has the index of each of the blocks with these numbers
abbrev pub AreListed : (ids numbers : List ℕ) → (indices : List ℕ) → Type 0
AreListed ids ns indices = (n m : ℕ) → Contains ns n → index_in ids n ≡ Some m → Contains indices m

-- the numbers of the blocks to which control may go from the block at an index
abbrev pub ways_of : List Block → (block : ℕ) → List ℕ
ways_of blocks b = ways (items_at blocks b) (slice_get (ids_of blocks) (b + 1))

-- the lists have for each block the indices of those to which control may go from it
pub record AreWaysDown (blocks : List Block) (down : List (List ℕ)) : Type 0 where
  pub long : length down ≡ length blocks
  pub each : (b : ℕ) → b < length blocks → AreListed (ids_of blocks) (ways_of blocks b) (slice_index_or down b [])

-- the lists have for each block the indices of those from which control may go to it
pub record AreWaysUp (blocks : List Block) (up : List (List ℕ)) : Type 0 where
  pub long : length up ≡ length blocks
  pub graph : IsGraph up
  pub each : (b n m : ℕ) → b < length blocks → Contains (ways_of blocks b) n → index_in (ids_of blocks) n ≡ Some m → IsEdge up m b

-- those of the first `count` blocks of so many that pass a test
pub record AreThose (blocks : ℕ) (test : ℕ → Bool) (count : ℕ) (those : List ℕ) : Type 0 where
  pub right : (b : ℕ) → Contains those b → (b < blocks) × (test b ≡ true)
  pub all : (b : ℕ) → b < count → test b ≡ true → Contains those b

-- those of the first `count` blocks that use the place before they set it
abbrev pub AreSources : (blocks : List Block) (x : Place) (count : ℕ) (sources : List ℕ) → Type 0
AreSources blocks x count sources = AreThose (length blocks) (λ b. live_by blocks x b None) count sources

-- the flags tell at the starts of which blocks of a function the place is live
pub record AreLiveStarts (f : Function) (x : Place) (flags : List Bool) : Type 0 where
  pub long : length flags ≡ length f.blocks
  pub each : (b : ℕ) → b < length f.blocks →
      DecidesIn f (λ g. Live g x (block_start (slice_index (ids_of f.blocks) b))) (slice_index_or flags b false)
