-- Sequences of rounds, and what is true once a round removes nothing.
use Rattle.std.specs.Prelude.{List, true, false}
use Rattle.mir_func.specs.declared.debug_substitution.DebugSubstitution.{DebugSubstitution}
use Rattle.mir_func.specs.Function.{Function}
use Rattle.mir_func.specs.Sound.{IsSound}
use Rattle.pass_trait.specs.Change.{change}
use Rattle.pass_trait.specs.Simulation.{PreservesSimulation}
use Rattle.dce_rule.specs.Dead.{IsRound, IsThinnedOut}
use Rattle.pass_edits.specs.WeakSimulation.{PreservesWeakSimulation}

-- any number of rounds
pub data AreRounds : Function → Function → Type 0 where
  no_round : {f : Function} → AreRounds f f
  one_more_round : {f h : Function} (g : Function) → AreRounds f g → IsRound g h → AreRounds f h

-- rounds after which a round removes nothing are complete
abbrev pub RoundsEnd : Type 0
RoundsEnd = (f g : Function) → AreRounds f g → IsRound g g → IsThinnedOut f g

-- preserving the weak simulation is reflexive and transitive; and if after that a round removes nothing, the full simulation
-- is preserved
pub record LooseLaws : Type 0 where
  pub itself : (f : Function) (subs : List DebugSubstitution) → PreservesWeakSimulation (change f subs f subs)
  pub then : (f g h : Function) (a b c : List DebugSubstitution) → PreservesWeakSimulation (change f a g b) → PreservesWeakSimulation (change g b h c) →
      PreservesWeakSimulation (change f a h c)
  pub settles : (f g : Function) (subs more : List DebugSubstitution) → PreservesWeakSimulation (change f subs g more) → IsSound g → IsRound g g →
      PreservesSimulation false true (change f subs g more)
