use Rattle.value_live_ins.proofs.Starting.{StartsBelow}
use Rattle.value_live_ins.proofs.opening.start_entry.Given as goal

abbrev pub invariant-loop-i : goal.invariant-loop-i
invariant-loop-i l = StartsBelow l.things l.i l.classes l.given
