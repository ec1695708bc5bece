use Rattle.std.proofs.Common.{◌≡◌, ℕ, cond, nat_lt, get_or}
use Rattle.value_tracker.proofs.location_tracker.clear_slots.Given as goal

abbrev pub invariant-loop-i : goal.invariant-loop-i
invariant-loop-i l = (j : ℕ) → get_or l.places j 0 ≡ cond (nat_lt j 32) (get_or l.initial.places j 0) (cond (nat_lt j l.i) 0 (get_or l.initial.places j 0))
