-- The input and the output of a pass.
use Rattle.std.specs.Prelude.{List}
use Rattle.sem_simulation.specs.mir_func.declared.debug_substitution.DebugSubstitution.{DebugSubstitution}
use Rattle.sem_simulation.specs.mir_func.Function.{Function}

-- a function with its substitutions, before a pass and after it
pub record Change : Type 0 where
  pub old : Function
  pub old_subs : List DebugSubstitution
  pub new : Function
  pub new_subs : List DebugSubstitution

-- the change from one function with its substitutions to another
abbrev pub change : (old : Function) (old_subs : List DebugSubstitution) (new : Function) (new_subs : List DebugSubstitution) → Change
change f subs g more = record { old = f; old_subs = subs; new = g; new_subs = more }
