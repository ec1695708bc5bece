-- The debug law of a round.
use Rattle.std.specs.Prelude.{List, []}
use Rattle.mir_func.specs.declared.debug_substitution.DebugSubstitution.{DebugSubstitution}
use Rattle.mir_func.specs.Function.{Function}
use Rattle.mir_func.specs.Sound.{IsSound}
use Rattle.pass_trait.specs.declared.loss.Loss.{Loss}
use Rattle.pass_trait.specs.Change.{change}
use Rattle.pass_trait.specs.Debug.{KeepsItems}
use Rattle.dce_round.specs.dce_rule.Dead.{IsRound}
use Rattle.dce_round.specs.Round.{IsDeadRound}
use Rattle.dce_proof.specs.DebugRule.{dead_rule}

-- each debug value, DBG_PHI and number is kept, or substituted or replaced by a DBG_PHI, or is among the losses with
-- its cause
abbrev pub RoundKeepsItems : Type 0
RoundKeepsItems = (f g : Function) (subs more : List DebugSubstitution) (losses : List Loss) → IsSound f → IsDeadRound f subs g more losses →
    KeepsItems dead_rule (change f subs g more) losses

-- and the same for a round in which nothing is dead, with no losses
abbrev pub IdleKeepsItems : Type 0
IdleKeepsItems = (f : Function) (subs : List DebugSubstitution) → IsSound f → IsRound f f → KeepsItems dead_rule (change f subs f subs) []
