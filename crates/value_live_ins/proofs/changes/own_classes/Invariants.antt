use Rattle.value_live_ins.specs.Walking.{AreOwn}
use Rattle.value_live_ins.proofs.changes.own_classes.Given as goal

abbrev pub invariant-loop-i : goal.invariant-loop-i
invariant-loop-i l = AreOwn l.i l.classes.items
