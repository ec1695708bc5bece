use Rattle.std.proofs.Common.{[]}
use Rattle.dce_salvage.proofs.Offs.{Offs}
use Rattle.dce_salvage.proofs.salvage_blocks.salvage_blocks.Given as goal

abbrev pub invariant-loop-at : goal.invariant-loop-at
invariant-loop-at l = Offs l.dead l.fn.blocks.items (record { blocks = []; subs = l.fn.subs; fresh = l.fn.fresh; lost = l.fn.lost.items }) l.at
    (record { blocks = l.blocks.items; subs = l.subs; fresh = l.fresh; lost = l.lost.items })

abbrev pub decreases-loop-at : goal.decreases-loop-at
decreases-loop-at l = l.at
