use Rattle.std.proofs.Common.{◌≡◌, ℕ, ◌++◌, List, nat_eq, length}
use Rattle.std.specs.Option.{option_map}
use Rattle.std.specs.HashMap.{get}
use Rattle.mir_func.specs.declared.block.Block.{Block}
use Rattle.fold_targets.specs.Leads.{first_id}
use Rattle.fold_targets.specs.Ends.{end_in}
use Rattle.fold_rule.specs.Reached.{ways_in}
use Rattle.fold_rule.specs.steps.Walked.{ended}
use Rattle.fold_rule.proofs.ways.ways_to_ends.Given as goal

abbrev pub invariant-loop-b : goal.invariant-loop-b
invariant-loop-b l = (done : List Block) × (l.rest ++ done ≡ l.blocks) × (l.next ≡ first_id done) ×
    ((q : ℕ) → get nat_eq l.ways q ≡ option_map (ended (end_in l.ends)) (ways_in done q))

abbrev pub decreases-loop-b : goal.decreases-loop-b
decreases-loop-b l = length l.rest
