use Rattle.std.proofs.Common.{◌≡◌, ℕ, Option, Some, length}
use Rattle.fold_targets.specs.Ends.{told}
use Rattle.fold_targets.specs.steps.Settled.{AreEnds, Chain, StayKnown}
use Rattle.fold_targets.proofs.ends.unwind.Given as goal

abbrev pub invariant-loop-x : goal.invariant-loop-x
invariant-loop-x l = record {
  right : (lead : ℕ → Option ℕ) (from last : ℕ) → Chain lead from l.fn.way.items last → told l.fn.ends last ≡ Some l.fn.end →
      AreEnds lead (told l.fn.ends) → AreEnds lead (told l.ends) × ((now : ℕ) × Chain lead from l.way.items now × (told l.ends now ≡ Some l.end));
  stay : StayKnown (told l.fn.ends) (told l.ends);
}

abbrev pub decreases-loop-x : goal.decreases-loop-x
decreases-loop-x l = length l.way.items
