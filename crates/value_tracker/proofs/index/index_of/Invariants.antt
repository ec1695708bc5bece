use Rattle.value_tracker.specs.Things.{IndexesBelow}
use Rattle.value_tracker.proofs.index.index_of.Given as goal

abbrev pub invariant-loop-i : goal.invariant-loop-i
invariant-loop-i l = IndexesBelow l.i l.things l.index
