use Rattle.std.proofs.Common.{length}
use Rattle.place_liveness.proofs.Walked.{Walked}
use Rattle.place_liveness.proofs.walk.live_alone.Given as goal

abbrev pub invariant-loop-item : goal.invariant-loop-item
invariant-loop-item l = Walked l.fn.next l.place l.target l.items l.above l.live

abbrev pub decreases-loop-item : goal.decreases-loop-item
decreases-loop-item l = length l.above
