-- Tests of what is live at the starts of blocks.
use Rattle.std.specs.Prelude.{◌≡◌, ◌↔◌, ℕ, None, Bool, true, false}
use Rattle.rv64_instr.specs.declared.place.Place.{Place}
use Rattle.rv64_instr.specs.declared.place.Place.TheVariants.{Register, Slot, Const}
use Rattle.mir_func.specs.Function.{Function}
use Rattle.mir_func.specs.Graph.{program_of, block_start}
use Rattle.pass_liveness.specs.sem_mir.Live.{Live}

-- the test says of each block number and each register whether the register is live at the block's start
abbrev pub Decides : Function → (live : ℕ → ℕ → Bool) → Type 0
Decides f live = (n r : ℕ) → (live n r ≡ true) ↔ Live (program_of false f.blocks (λ q. None)) (Register r) (block_start n)

-- the same test for places, of which only registers are asked
abbrev pub at_starts : (live : ℕ → ℕ → Bool) → ℕ → Place → Bool
at_starts live n (Register r) = live n r
at_starts live n (Slot k) = false
at_starts live n (Const c) = false
