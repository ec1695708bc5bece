use Rattle.value_solver.proofs.Empty.{IsEmptyJoin}
use Rattle.value_solver.proofs.join.empty_join.Given as goal

abbrev pub invariant-loop : goal.invariant-loop
invariant-loop l = IsEmptyJoin l.counter l.classes l.given
