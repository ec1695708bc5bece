use Rattle.std.proofs.Common.{◌≡◌, map, take}
use Rattle.sim_trace.specs.Variables.{variable_of}
use Rattle.sim_trace.proofs.variable.variables_of.Given as goal

abbrev pub invariant-loop-line : goal.invariant-loop-line
invariant-loop-line l = l.variables ≡ map (variable_of l.lists) (take l.line-index l.listed)
