use Rattle.std.proofs.Common.{◌≡◌, take}
use Rattle.value_solver.specs.Hands.{ways_of}
use Rattle.value_solver.proofs.solve.successors_of.Given as goal

abbrev pub invariant-loop-flow : goal.invariant-loop-flow
invariant-loop-flow l = l.ways.items ≡ ways_of (take l.flow-index l.flows)
