use Rattle.dataflow.specs.Graph.{IsOrder}
use Rattle.dataflow.proofs.Sweeps.{Solving}
use Rattle.dataflow.proofs.solver.settle.Given as goal

abbrev pub invariant-loop-sweeps : goal.invariant-loop-sweeps
invariant-loop-sweeps g l = record {
  solving : Solving (g.A.Analysis.IsValid l.analysis) (g.A.Analysis.IsClosed l.analysis) (g.A.Analysis.height l.analysis) l.initial.state l.state l.sweeps;
  order : IsOrder (g.A.Analysis.blocks l.analysis) l.order.items;
}

abbrev pub decreases-loop-sweeps : goal.decreases-loop-sweeps
decreases-loop-sweeps g l = g.A.Analysis.height l.analysis l.state
