use Rattle.std.proofs.Common.{◌≡◌, ◌<◌, ℕ, get_or, length}
use Rattle.value_tracker.specs.Things.{settled_at}
use Rattle.value_tracker.proofs.start.settle.Given as goal

abbrev pub invariant-loop-i : goal.invariant-loop-i
invariant-loop-i l = record {
  count : length l.settled.items ≡ l.i;
  each : (j : ℕ) → j < l.i → get_or l.settled.items j 0 ≡ settled_at l.classes l.given j;
}
