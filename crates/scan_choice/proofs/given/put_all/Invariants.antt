use Rattle.std.proofs.Common.{length}
use Rattle.scan_choice.proofs.Entered.{Entered}
use Rattle.scan_choice.proofs.given.put_all.Given as goal

abbrev pub invariant-loop-last : goal.invariant-loop-last
invariant-loop-last l = Entered l.assignments l.above l.given.items

abbrev pub decreases-loop-last : goal.decreases-loop-last
decreases-loop-last l = length l.above
