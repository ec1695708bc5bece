use Rattle.std.proofs.Common.{◌≡◌, ◌≤◌, length, take}
use Rattle.pass_salvage.specs.SalvageAction.{last_definition}
use Rattle.pass_salvage.proofs.salvage_action.last_definition.Given as goal

abbrev pub invariant-loop-at : goal.invariant-loop-at
invariant-loop-at l = (l.at ≤ length l.items) × (last_definition l.s l.items ≡ last_definition l.s (take l.at l.items))

abbrev pub decreases-loop-at : goal.decreases-loop-at
decreases-loop-at l = l.at
