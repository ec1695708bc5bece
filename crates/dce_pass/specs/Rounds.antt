-- Rounds with their debug items, until nothing is dead.
use Rattle.std.specs.Prelude.{List, [], ◌++◌}
use Rattle.mir_func.specs.declared.debug_substitution.DebugSubstitution.{DebugSubstitution}
use Rattle.mir_func.specs.Function.{Function}
use Rattle.pass_trait.specs.declared.loss.Loss.{Loss}
use Rattle.dce_proof.specs.dce_rule.Dead.{IsRound}
use Rattle.dce_proof.specs.Round.{IsDeadRound}

-- either nothing is dead, or there is a round and then more rounds; the losses are concatenated
pub data AreDeadRounds : Function → List DebugSubstitution → Function → List DebugSubstitution → List Loss → Type 0 where
  ended : {f : Function} {subs : List DebugSubstitution} → IsRound f f → AreDeadRounds f subs f subs []
  and_round : {f h : Function} {subs last : List DebugSubstitution} {later : List Loss} (g : Function) (more : List DebugSubstitution) (here : List Loss) →
      IsDeadRound f subs g more here → AreDeadRounds g more h last later → AreDeadRounds f subs h last (here ++ later)
