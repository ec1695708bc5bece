use Rattle.std.proofs.Common.{length}
use Rattle.pass_liveness.specs.Liveness.{has_at_start}
use Rattle.scan_liveness.proofs.Walked.{WalkedItems}
use Rattle.scan_liveness.proofs.walk.push_items.Given as goal

abbrev pub invariant-loop-item : goal.invariant-loop-item
invariant-loop-item l =
    WalkedItems (has_at_start l.numbers.slots l.numbers.blocks l.starts) l.numbers.slots l.fn.next l.items l.above l.set l.quiet
    l.initial.masks.items l.initial.pending l.initial.extents.items l.masks.items l.pending l.extents.items

abbrev pub decreases-loop-item : goal.decreases-loop-item
decreases-loop-item l = length l.above
