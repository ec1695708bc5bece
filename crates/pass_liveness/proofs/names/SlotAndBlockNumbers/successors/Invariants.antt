use Rattle.std.proofs.Common.{◌≡◌, length}
use Rattle.std.specs.Prelude.{All}
use Rattle.dataflow.specs.Graph.{AreBlocks}
use Rattle.pass_liveness.proofs.names.SlotAndBlockNumbers.successors.Given as goal

abbrev pub invariant-loop-block : goal.invariant-loop-block
invariant-loop-block l = record { long : length l.ways.items ≡ l.block; within : All (AreBlocks (length l.self.blocks)) l.ways.items }
