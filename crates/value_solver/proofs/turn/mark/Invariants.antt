use Rattle.value_solver.proofs.Marks.{IsMarked}
use Rattle.value_solver.proofs.turn.mark.Given as goal

abbrev pub invariant-loop-c : goal.invariant-loop-c
invariant-loop-c l = IsMarked l.ways l.c-index l.initial.dirty.items l.dirty.items
