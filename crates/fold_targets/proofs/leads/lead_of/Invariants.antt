use Rattle.std.proofs.Common.{◌≡◌, length}
use Rattle.fold_targets.specs.Leads.{lead_of}
use Rattle.fold_targets.proofs.leads.lead_of.Given as goal

abbrev pub invariant-loop-i : goal.invariant-loop-i
invariant-loop-i l = lead_of l.rest l.next ≡ lead_of l.items l.next

abbrev pub decreases-loop-i : goal.decreases-loop-i
decreases-loop-i l = length l.rest
