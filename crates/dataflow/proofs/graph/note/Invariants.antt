use Rattle.dataflow.proofs.Preds.{Noting}
use Rattle.dataflow.proofs.graph.note.Given as goal

abbrev pub invariant-loop-c : goal.invariant-loop-c
invariant-loop-c l = Noting l.block l.ways l.c-index l.initial.preds.items l.preds.items
