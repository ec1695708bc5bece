-- The laws of a round.
use Rattle.std.specs.Prelude.{◌<◌, List}
use Rattle.mir_func.specs.declared.debug_substitution.DebugSubstitution.{DebugSubstitution}
use Rattle.mir_func.specs.Function.{Function}
use Rattle.mir_func.specs.Sound.{IsSound}
use Rattle.mir_func.specs.Strip.{stripped}
use Rattle.pass_trait.specs.declared.loss.Loss.{Loss}
use Rattle.pass_trait.specs.Change.{change}
use Rattle.pass_trait.specs.Sizes.{code_count}
use Rattle.dce_salvage_proof.specs.dce_rule.Dead.{IsRound}
use Rattle.dce_salvage_proof.specs.pass_edits.WeakSimulation.{PreservesWeakSimulation}
use Rattle.dce_round.specs.Round.{IsDeadRound}

-- the function after it is sound, and the round preserves the weak simulation
abbrev pub RoundFollows : Type 0
RoundFollows = (f g : Function) (subs more : List DebugSubstitution) (losses : List Loss) → IsSound f → IsDeadRound f subs g more losses →
    IsSound g × PreservesWeakSimulation (change f subs g more)

-- it is a round of the stripped functions, and there is less code after it
abbrev pub RoundCode : Type 0
RoundCode = (f g : Function) (subs more : List DebugSubstitution) (losses : List Loss) → IsSound f → IsDeadRound f subs g more losses →
    IsRound (stripped f) (stripped g) × (code_count g < code_count f)
