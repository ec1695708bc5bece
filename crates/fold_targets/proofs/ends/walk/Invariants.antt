use Rattle.std.proofs.Common.{◌≡◌, ℕ, true, not, nat_eq, length, filter}
use Rattle.std.specs.HashSet.{contains}
use Rattle.fold_targets.specs.Ends.{told}
use Rattle.fold_targets.specs.steps.Settled.{Chain, is_among}
use Rattle.fold_targets.proofs.ends.walk.Given as goal

abbrev pub invariant-loop-n : goal.invariant-loop-n
invariant-loop-n l = record {
  chain : Chain (told l.leads) l.from l.way.items l.at;
  passed : (q : ℕ) → contains nat_eq l.passed q ≡ true → is_among l.way.items q ≡ true;
}

abbrev pub decreases-loop-n : goal.decreases-loop-n
decreases-loop-n l = length (filter (λ e. not (contains nat_eq l.passed e.0)) l.leads.entries)
