use Rattle.place_liveness.specs.Renewal.{AreHeld}
use Rattle.place_liveness.proofs.doubt.held.Given as goal

abbrev pub invariant-loop-block : goal.invariant-loop-block
invariant-loop-block l = AreHeld l.blocks l.place l.before l.doubted l.down l.block l.held.items
