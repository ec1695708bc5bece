use Rattle.std.proofs.Common.{◌≡◌, ◌⊎◌, ℕ, true}
use Rattle.std.specs.Option.{IsSome}
use Rattle.fold_targets.specs.Ends.{told}
use Rattle.fold_targets.specs.steps.Settled.{AreEnds, is_among}
use Rattle.fold_targets.proofs.ends.ends.Given as goal

abbrev pub invariant-loop-n : goal.invariant-loop-n
invariant-loop-n l = record {
  next : (goal.iterator-loop-n).can_next l.n-iterator;
  finite : (goal.iterator-loop-n).is_finite l.n-iterator;
  right : AreEnds (told l.leads) (told l.ends);
  found : (q : ℕ) → IsSome (told l.leads q) → IsSome (told l.ends q) ⊎ (is_among l.n-iterator q ≡ true);
}
