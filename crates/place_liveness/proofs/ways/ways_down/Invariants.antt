use Rattle.std.proofs.Common.{length}
use Rattle.std.specs.Prelude.{All}
use Rattle.graph_spread.specs.dataflow.Graph.{AreBlocks}
use Rattle.place_liveness.proofs.Listed.{Listing}
use Rattle.place_liveness.proofs.ways.ways_down.Given as goal

abbrev pub invariant-loop-block : goal.invariant-loop-block
invariant-loop-block l = record { within : All (AreBlocks (length l.ids)) l.ways.items; listed : Listing l.f.blocks l.block l.ways.items }
