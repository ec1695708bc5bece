use Rattle.dataflow.proofs.Preds.{SoFarPreds}
use Rattle.dataflow.proofs.graph.predecessors.Given as goal

abbrev pub invariant-loop-block : goal.invariant-loop-block
invariant-loop-block l = SoFarPreds l.successors l.block l.preds.items
