-- The code rule of spilling.
use Rattle.std.specs.Prelude.{◌≡◌, ◌↔◌, ℕ, List, Contains, None, Bool, true, false}
use Rattle.rv64_instr.specs.declared.place.Place.TheVariants.{Register}
use Rattle.mir_func.specs.Function.{Function}
use Rattle.mir_func.specs.Graph.{program_of, block_start}
use Rattle.pass_trait.specs.sem_mir.InitialState.{first_of}
use Rattle.pass_trait.specs.sem_mir.Live.{Live}
use Rattle.pass_trait.specs.Code.{CodeRule}
use Rattle.spill_rule.specs.Choice.{spilled}

-- the register is live at the start of the function's first block
abbrev pub IsLiveIn : Function → ℕ → Type 0
IsLiveIn f r = Live (program_of false f.blocks (λ q. None)) (Register r) (block_start (first_of f.blocks))

-- the test says of each register of the reserve whether it is live into the first block
abbrev pub Decides : (reserve : List ℕ) → Function → (ℕ → Bool) → Type 0
Decides reserve f live = (r : ℕ) → Contains reserve r → (live r ≡ true) ↔ IsLiveIn f r

-- the registers of the reserve are spilled as the rule chooses
abbrev pub IsSpilled : (reserve : List ℕ) → CodeRule
IsSpilled reserve f g = (live : ℕ → Bool) × Decides reserve f live × (g ≡ spilled reserve live f)
