use Rattle.place_liveness.proofs.Settles.{Settling}
use Rattle.place_liveness.proofs.renewal.settled.Given as goal

abbrev pub invariant-loop-block : goal.invariant-loop-block
invariant-loop-block l = Settling l.before l.doubted l.stays l.block l.after.items
