-- Where the place of a register's value may hold another value, or none.
use Rattle.std.specs.Prelude.{◌≡◌, ◌⊎◌, ℕ, ◌≤◌, Option, Some, false}
use Rattle.rv64_instr.specs.declared.place.Place.TheVariants.{Register}
use Rattle.mir_func.specs.declared.position.Pos.{Pos}
use Rattle.mir_func.specs.Function.{Function}
use Rattle.mir_func.specs.Graph.{Program, Edge, block_start}
use Rattle.scan_allocation.specs.sem_mir.InitialState.{first_of}
use Rattle.scan_allocation.specs.sem_mir.Live.{Defines}
use Rattle.scan_allocation.specs.pass_trait.Causes.{is_named, Comes}
use Rattle.scan_allocation.specs.Coloring.{now}

module _ (g : Program) (given : ℕ → Option ℕ) where
  -- code at the position sets another register, whose value is now in the same place, and not this one
  abbrev pub SetsAnother : ℕ → Pos → Type 0
  SetsAnother r p = (s : ℕ) × (now given s ≡ now given r) × Defines (g.fetch p) (Register s) × (Defines (g.fetch p) (Register r) → ⊥)

  -- some path leads here from right after such code, without a definition of the register
  abbrev pub Overwritten : ℕ → Pos → Type 0
  Overwritten r at = Comes g (λ q. (p : Pos) × SetsAnother r p × Edge g p q) (λ p. Defines (g.fetch p) (Register r)) at

  -- some path leads here from the start, without a definition of the register
  abbrev pub Unset : (start : Pos) → ℕ → Pos → Type 0
  Unset start r at = Comes g (λ q. q ≡ start) (λ p. Defines (g.fetch p) (Register r)) at

-- a debug value or DBG_PHI of the register at this position becomes undef: the register is virtual and no code names it; or it gets a physical
-- register, and may not have been set; or its place may have been overwritten
abbrev pub IsSilent : Program → Function → (given : ℕ → Option ℕ) → ℕ → Pos → Type 0
IsSilent g f given r at = ((32 ≤ r) × (is_named f r ≡ false)) ⊎
    (((q : ℕ) × (given r ≡ Some q) × Unset g given (block_start (first_of f.blocks)) r at) ⊎ Overwritten g given r at)
