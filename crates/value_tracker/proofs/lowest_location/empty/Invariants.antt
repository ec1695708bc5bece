use Rattle.std.proofs.Common.{◌≡◌, ◌<◌, ◌≤◌, ℕ, length, get_or, None, Some}
use Rattle.value_tracker.proofs.lowest_location.empty.Given as goal

abbrev pub invariant-loop-i : goal.invariant-loop-i
invariant-loop-i l = (c k : ℕ) → get_or l.firsts c None ≡ Some k → (l.i ≤ k) × (k < length l.places) × (get_or l.places k 0 ≡ c)
