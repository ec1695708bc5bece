use Rattle.value_live_ins.specs.steps.Ways.{FindsIds}
use Rattle.value_live_ins.proofs.ways.indices_of.Given as goal

abbrev pub invariant-loop-i : goal.invariant-loop-i
invariant-loop-i l = FindsIds l.i l.blocks l.indices
