use Rattle.std.proofs.Common.{length}
use Rattle.pass_liveness.specs.Liveness.{has_at_start}
use Rattle.scan_liveness.proofs.Walked.{WalkedBlocks}
use Rattle.scan_liveness.proofs.walk.push_pending.Given as goal

abbrev pub invariant-loop-block : goal.invariant-loop-block
invariant-loop-block l =
    WalkedBlocks (has_at_start l.numbers.slots l.numbers.blocks l.starts) l.numbers.slots l.blocks l.above l.next
    l.initial.masks.items l.initial.pending l.initial.extents.items l.masks.items l.pending l.extents.items

abbrev pub decreases-loop-block : goal.decreases-loop-block
decreases-loop-block l = length l.above
