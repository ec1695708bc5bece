use Rattle.std.proofs.Common.{◌≡◌, ◌<◌, ◌≤◌, ℕ, get_or, length}
use Rattle.value_tracker.proofs.lowest_location.end_of.Given as goal

abbrev pub invariant-loop-end : goal.invariant-loop-end
invariant-loop-end l = record {
  some : 0 < length l.places → 0 < l.end;
  within : l.end ≤ length l.places;
  rest : (i : ℕ) → l.end ≤ i → get_or l.places i 0 ≡ 0;
}

abbrev pub decreases-loop-end : goal.decreases-loop-end
decreases-loop-end l = l.end
