use Rattle.std.proofs.Common.{take}
use Rattle.value_solver.specs.Joining.{IsJoined}
use Rattle.value_solver.specs.Hands.{handed}
use Rattle.value_solver.proofs.visit.joined.Given as goal

abbrev pub invariant-loop-p : goal.invariant-loop-p
invariant-loop-p l = IsJoined l.things (handed l.start l.flows l.entries l.block (take l.p-index l.predecessors)) l.joined
