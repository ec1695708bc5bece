use Rattle.std.proofs.Common.{length}
use Rattle.pass_liveness.specs.Sets.{has}
use Rattle.dce_analysis.proofs.Walk.{Walking}
use Rattle.dce_analysis.proofs.judge.judge_items.Given as goal

abbrev pub invariant-loop-item : goal.invariant-loop-item
invariant-loop-item l = Walking l.live.slots (has l.live.slots l.initial.needed) l.items l.above l.needed l.dead.items

abbrev pub decreases-loop-item : goal.decreases-loop-item
decreases-loop-item l = length l.above
