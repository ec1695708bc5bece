use Rattle.std.proofs.Common.{ℕ, get_or, None}
use Rattle.value_tracker.specs.LowestLocation.{IsFirstBelow}
use Rattle.value_tracker.proofs.lowest_location.fill.Given as goal

abbrev pub invariant-loop-i : goal.invariant-loop-i
invariant-loop-i l = (c : ℕ) → IsFirstBelow l.i l.places c (get_or l.firsts c None)
