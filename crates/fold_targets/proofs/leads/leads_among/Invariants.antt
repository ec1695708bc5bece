use Rattle.std.proofs.Common.{◌≡◌, ℕ, ◌++◌, List, nat_eq, length}
use Rattle.std.specs.HashMap.{get}
use Rattle.mir_func.specs.declared.block.Block.{Block}
use Rattle.fold_targets.specs.Leads.{first_id, lead_in}
use Rattle.fold_targets.proofs.leads.leads_among.Given as goal

abbrev pub invariant-loop-b : goal.invariant-loop-b
invariant-loop-b l = (done : List Block) × (l.rest ++ done ≡ l.blocks) × (l.next ≡ first_id done) ×
    ((q : ℕ) → get nat_eq l.leads q ≡ lead_in done q)

abbrev pub decreases-loop-b : goal.decreases-loop-b
decreases-loop-b l = length l.rest
