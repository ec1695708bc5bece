use Rattle.pass_salvage.specs.SalvageAction.{going_from}
use Rattle.dce_salvage.proofs.Moved.{Moving}
use Rattle.dce_salvage.proofs.salvage_numbers.salvage_numbers.Given as goal

abbrev pub invariant-loop-at : goal.invariant-loop-at
invariant-loop-at l =
    Moving (going_from 0 l.dead) l.dead
    (record { items = l.initial.items.items; subs = l.initial.subs; fresh = l.initial.fresh; lost = l.initial.lost.items })
    l.at (record { items = l.items.items; subs = l.subs; fresh = l.fresh; lost = l.lost.items }) l.done.items

abbrev pub decreases-loop-at : goal.decreases-loop-at
decreases-loop-at l = l.at
