use Rattle.std.proofs.Common.{◌+◌, ◌*◌, ◌≤◌, ℕ, length}
use Rattle.std.specs.VecDeque.{deque_len}
use Rattle.dataflow.specs.Graph.{AreAtMost}
use Rattle.dataflow.proofs.solver.propagate.Given as goal

abbrev pub invariant-loop : goal.invariant-loop
invariant-loop g l = record {
  valid : g.A.Analysis.IsValid l.analysis l.state;
  visits : (most : ℕ) → AreAtMost most l.dependents → l.visits + deque_len l.worklist.queue + most * g.A.Analysis.height l.analysis l.state
      ≤ length l.order + most * g.A.Analysis.height l.analysis l.initial.state;
}
