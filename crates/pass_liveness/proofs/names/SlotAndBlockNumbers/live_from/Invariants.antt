use Rattle.std.proofs.Common.{length}
use Rattle.pass_liveness.proofs.Walking.{Walking}
use Rattle.pass_liveness.proofs.names.SlotAndBlockNumbers.live_from.Given as goal

abbrev pub invariant-loop-item : goal.invariant-loop-item
invariant-loop-item l = Walking l.self.slots l.self.blocks l.starts l.fn.next l.items l.above l.set

abbrev pub decreases-loop-item : goal.decreases-loop-item
decreases-loop-item l = length l.above
