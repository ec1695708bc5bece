use Rattle.pass_liveness.specs.Sets.{has}
use Rattle.scan_stale.specs.scan_choice.Given.{given_by}
use Rattle.scan_allot.proofs.Walked.{Along}
use Rattle.scan_allot.proofs.items.items_now.Given as goal

abbrev pub invariant-loop-at : goal.invariant-loop-at
invariant-loop-at l =
    Along l.f (given_by l.given) l.fn._block l.items (has l.stale.slots l.initial.set) l.at (has l.stale.slots l.set) l.made l.initial.lost.items l.lost.items
