-- The invariants of the liveness solver, which visits blocks in any order.
use Rattle.std.specs.Prelude.{◌≡◌, ℕ, ◌+◌, ◌<◌, List, [], length, slice_get, slice_index_or, Bool, true, Option, Some}
use Rattle.std.specs.List.{sum_by}
use Rattle.rv64_instr.specs.declared.place.Place.{Place}
use Rattle.mir_func.specs.declared.block.Block.{Block}
use Rattle.mir_func.specs.declared.debug_substitution.OperandPair.{OperandPair}
use Rattle.mir_func.specs.Graph.{program_of, block_start}
use Rattle.mir_func.specs.Sound.{AllItems, SlotsIn, ids_of, AreApart}
use Rattle.sem_mir.specs.Live.{Live}
use Rattle.pass_liveness.specs.Sets.{has, gap}
use Rattle.pass_liveness.specs.Walk.{live_from}
use Rattle.pass_liveness.specs.Liveness.{has_at_start}

-- the index is that of one of the blocks, and the blocks' items name only these slots
pub record IsKnownBlock (known : List ℕ) (blocks : List Block) (block : ℕ) : Type 0 where
  pub slots : AllItems (λ i. SlotsIn known i.kind) blocks
  pub inside : block < length blocks

-- every member of the sets is live at the start of its block (soundness)
abbrev pub AreFound : (slots ids : List ℕ) → List Block → (starts : List (List ℕ)) → Type 0
AreFound slots ids blocks starts = (sees_pointer : Bool) (resolve : OperandPair → Option OperandPair) (n : ℕ) (x : Place) →
    has_at_start slots ids starts n x ≡ true → Live (program_of sees_pointer blocks resolve) x (block_start n)

-- a block's set has all that is live at its start according to the sets (the data-flow equation, in one direction)
abbrev pub IsClosed : (slots ids : List ℕ) → List Block → (starts : List (List ℕ)) → (block : ℕ) → Type 0
IsClosed slots ids blocks starts b = (block : Block) (x : Place) → slice_get blocks b ≡ Some block →
    live_from (has_at_start slots ids starts) block.items (slice_get (ids_of blocks) (b + 1)) x ≡ true → has slots (slice_index_or starts b []) x ≡ true

-- the sum of the gaps of all sets: it falls as sets grow
abbrev pub gap_of : List (List ℕ) → ℕ
gap_of starts = sum_by gap starts

-- the invariant of the sets while they are computed
pub record IsState (slots ids : List ℕ) (blocks : List Block) (starts : List (List ℕ)) : Type 0 where
  pub known : AllItems (λ i. SlotsIn slots i.kind) blocks
  pub long : length starts ≡ length blocks
  pub found : AreApart (ids_of blocks) → ids ≡ ids_of blocks → AreFound slots ids blocks starts
