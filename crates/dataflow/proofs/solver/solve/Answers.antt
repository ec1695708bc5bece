use Rattle.std.proofs.Common.{ℕ, length, ap, arith}
use Rattle.dataflow.proofs.solver.solve.Goals as goal

pub returns-clause-visits : goal.returns-clause-visits
returns-clause-visits g c = λ most few. omega (arith, c.in_ok-visits.ensures.visits most few, ap (length {A = ℕ}) c.as_slice.ensures.value)
