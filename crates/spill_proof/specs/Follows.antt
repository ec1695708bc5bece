-- Rewriting the debug values of spilled registers preserves the simulation.
use Rattle.std.specs.Prelude.{ℕ, ◌<◌, List, true, false}
use Rattle.mir_func.specs.declared.debug_substitution.DebugSubstitution.{DebugSubstitution}
use Rattle.mir_func.specs.Function.{Function}
use Rattle.mir_func.specs.Sound.{IsSound}
use Rattle.pass_trait.specs.Change.{change}
use Rattle.pass_trait.specs.Simulation.{PreservesSimulation}
use Rattle.pass_trait.specs.Sizes.{greatest_number}
use Rattle.spill_code.specs.declared.spilling.Spilling.{Spilling}
use Rattle.spill_debug.specs.RewrittenDebugItems.{asked}

-- and keeps matched block ends matched, if k is above all numbers
abbrev pub AskedFollows : Type 0
AskedFollows = (s : Spilling) (k : ℕ) (f : Function) (subs : List DebugSubstitution) → IsSound f → greatest_number f subs < k →
    PreservesSimulation false true (change f subs (asked s k f) subs)
