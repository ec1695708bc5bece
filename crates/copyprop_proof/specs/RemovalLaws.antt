-- The laws of a function without its redundant copies, with their numbers salvaged.
use Rattle.std.specs.Prelude.{List, true, false}
use Rattle.mir_func.specs.declared.debug_substitution.DebugSubstitution.{DebugSubstitution}
use Rattle.mir_func.specs.Function.{Function}
use Rattle.mir_func.specs.Sound.{IsSound}
use Rattle.pass_trait.specs.Change.{change}
use Rattle.pass_trait.specs.Simulation.{PreservesSimulation}
use Rattle.copyprop_rule.specs.Rule.{salvaged_function, salvaged_entries}

-- it is sound, and copy propagation preserves the simulation and keeps matched block ends matched
abbrev pub CopiesFollow : Type 0
CopiesFollow = (f : Function) (subs : List DebugSubstitution) → IsSound f →
    IsSound (salvaged_function f subs) × PreservesSimulation false true (change f subs (salvaged_function f subs) (salvaged_entries f subs))
