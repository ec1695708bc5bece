use Rattle.pass_liveness.specs.Sets.{has}
use Rattle.dce_sweep.proofs.Steps.{Walking}
use Rattle.dce_sweep.proofs.left.left_items.Given as goal

abbrev pub invariant-loop-at : goal.invariant-loop-at
invariant-loop-at l =
    Walking l.items l.dead (has l.wrong.slots l.initial.set) l.initial.lost.items l.at (has l.wrong.slots l.set) l.left.items l.lost.items
