use Rattle.dataflow.proofs.Sweeps.{Sweeping}
use Rattle.dataflow.proofs.solver.sweep.Given as goal

abbrev pub invariant-loop-block : goal.invariant-loop-block
invariant-loop-block g l =
    Sweeping (g.A.Analysis.IsValid l.analysis) (g.A.Analysis.IsClosed l.analysis) (g.A.Analysis.height l.analysis) l.initial.state l.state l.order l.block-index
    l.changed
