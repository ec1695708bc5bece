-- The law of complete rounds.
use Rattle.std.specs.Prelude.{List, true, false}
use Rattle.mir_func.specs.declared.debug_substitution.DebugSubstitution.{DebugSubstitution}
use Rattle.mir_func.specs.Function.{Function}
use Rattle.mir_func.specs.Sound.{IsSound}
use Rattle.mir_func.specs.Strip.{stripped}
use Rattle.pass_trait.specs.declared.loss.Loss.{Loss}
use Rattle.pass_trait.specs.Change.{change}
use Rattle.pass_trait.specs.Simulation.{PreservesSimulation}
use Rattle.pass_trait.specs.Sizes.{KeepsSizes}
use Rattle.dce_proof.specs.dce_rule.Dead.{IsThinnedOut}
use Rattle.dce_pass.specs.Rounds.{AreDeadRounds}

-- complete rounds keep the function sound, preserve the simulation and keep the size bounds, and on stripped functions
-- they are complete rounds too
pub record KeepsRounds (f : Function) (subs : List DebugSubstitution) (g : Function) (more : List DebugSubstitution) : Type 0 where
  pub sound : IsSound g
  pub follows : PreservesSimulation false true (change f subs g more)
  pub sizes : KeepsSizes 1 1 (change f subs g more)
  pub code : IsThinnedOut (stripped f) (stripped g)

-- complete rounds have these properties
abbrev pub RoundsKeep : Type 0
RoundsKeep = (f g : Function) (subs more : List DebugSubstitution) (losses : List Loss) → IsSound f → AreDeadRounds f subs g more losses →
    KeepsRounds f subs g more
