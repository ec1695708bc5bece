use Rattle.std.proofs.Common.{◌≡◌, ℕ, ◌++◌, List, Some, false, cond, length}
use Rattle.fold_targets.specs.Ends.{told}
use Rattle.fold_targets.specs.steps.Settled.{is_among}
use Rattle.fold_targets.proofs.ends.close.Given as goal

abbrev pub invariant-loop-x : goal.invariant-loop-x
invariant-loop-x l = (popped : List ℕ) × (l.way.items ++ popped ≡ l.fn.way.items) × (is_among popped l.last ≡ false) ×
    ((q : ℕ) → told l.ends q ≡ cond (is_among popped q) (Some q) (told l.fn.ends q))

abbrev pub decreases-loop-x : goal.decreases-loop-x
decreases-loop-x l = length l.way.items
