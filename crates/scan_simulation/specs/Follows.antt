-- Replacing virtual registers by physical ones preserves the simulation.
use Rattle.std.specs.Prelude.{◌≡◌, ℕ, List, Option, Some, Bool, true, false}
use Rattle.rv64_instr.specs.declared.place.Place.TheVariants.{Register}
use Rattle.mir_func.specs.declared.debug_substitution.DebugSubstitution.{DebugSubstitution}
use Rattle.mir_func.specs.declared.item.Item.{Item}
use Rattle.mir_func.specs.declared.position.Pos.{Pos}
use Rattle.mir_func.specs.Function.{Function}
use Rattle.mir_func.specs.Graph.{Program, Here, block_start, program_of}
use Rattle.mir_func.specs.Resolve.{resolve}
use Rattle.mir_func.specs.Sound.{AllItems, HasForm, IsSound}
use Rattle.sem_mir.specs.InitialState.{first_of}
use Rattle.scan_rule.specs.pass_trait.Causes.{AsksFor}
use Rattle.scan_rule.specs.pass_trait.Change.{change}
use Rattle.scan_rule.specs.pass_trait.Simulation.{PreservesSimulation}
use Rattle.scan_rule.specs.scan_allocation.Coloring.{IsColoring}
use Rattle.scan_rule.specs.Rewrite.{allotted}
use Rattle.scan_rule.specs.Silence.{Overwritten, Unset}

-- a debug value or DBG_PHI of a register becomes undef where the register's place may be overwritten, and, if the register gets another, where it may
-- not have been set
pub record SilencesWrong (g : Program) (start : Pos) (given : ℕ → Option ℕ) (silent : Pos → ℕ → Bool) : Type 0 where
  pub overwritten : (p : Pos) (i : Item) (r : ℕ) → g.fetch p ≡ Here i → AsksFor (Register r) i.kind → Overwritten g given r p → silent p r ≡ true
  pub unset : (p : Pos) (i : Item) (r q : ℕ) → g.fetch p ≡ Here i → AsksFor (Register r) i.kind → given r ≡ Some q → Unset g given start r p →
      silent p r ≡ true

-- of a sound function whose code has the required forms, by a coloring; and matched block ends stay matched
abbrev pub AllottedFollows : Type 0
AllottedFollows = (f : Function) (subs : List DebugSubstitution) (given : ℕ → Option ℕ) (silent : Pos → ℕ → Bool) → IsSound f →
    AllItems (λ i. HasForm i.kind) f.blocks → IsColoring (program_of false f.blocks (resolve subs)) given →
    SilencesWrong (program_of false f.blocks (resolve subs)) (block_start (first_of f.blocks)) given silent →
    PreservesSimulation false true (change f subs (allotted given silent f) subs)
