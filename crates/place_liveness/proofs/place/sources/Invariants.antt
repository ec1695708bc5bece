use Rattle.place_liveness.specs.Alone.{AreSources}
use Rattle.place_liveness.proofs.place.sources.Given as goal

abbrev pub invariant-loop-block : goal.invariant-loop-block
invariant-loop-block l = AreSources l.blocks l.place l.block l.sources.items
