use Rattle.std.proofs.Common.{arith}
use Rattle.dataflow.proofs.solver.propagate.Goals as goal

pub loop-init : goal.loop-init
loop-init g c = record { valid = c.requires.valid; visits = λ most few. omega (arith, c.in_ok-worklist.ensures) }

pub loop-preserved : goal.loop-preserved
loop-preserved g c = record {
  valid = c.in_ok-turn.ensures.valid;
  visits = λ most few. omega (
    arith,
    c.loop.invariant.visits most few,
    c.in_ok-turn.ensures.waiting most few,
    c.in-Some.ensures,
    c.saturating_add-visits.ensures,
  );
}

pub returns-clause-visits : goal.returns-clause-visits
returns-clause-visits g c = λ most few. omega (arith, c.loop.invariant.visits most few)
