use Rattle.std.proofs.Common.{◌≡◌, ◌++◌, map}
use Rattle.scope_variables.specs.steps.Listed.{placed}
use Rattle.scope_variables.proofs.variables.placed_variables.Given as goal

abbrev pub invariant-loop-key : goal.invariant-loop-key
invariant-loop-key l = l.made ++ map (placed l.marked l.scope) l.key-iterator ≡ map (placed l.marked l.scope) l.keys.keys
