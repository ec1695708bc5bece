use Rattle.std.proofs.Common.{◌+◌, nat_eq, not, length, filter}
use Rattle.std.specs.HashMap.{get}
use Rattle.std.specs.HashSet.{contains}
use Rattle.fold_targets.specs.Ends.{end_in}
use Rattle.fold_rule.specs.steps.Walked.{targets_of, IsWalk}
use Rattle.fold_rule.proofs.reached.reached.Given as goal

abbrev pub invariant-loop-n : goal.invariant-loop-n
invariant-loop-n l = IsWalk l.blocks (end_in l.ends) (get nat_eq l.ways) (contains nat_eq l.seen) l.waiting.items

abbrev pub decreases-loop-n : goal.decreases-loop-n
decreases-loop-n l = length (filter (λ q. not (contains nat_eq l.seen q)) (targets_of l.ways.entries)) + length l.waiting.items
