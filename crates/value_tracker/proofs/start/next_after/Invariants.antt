use Rattle.std.proofs.Common.{◌<◌, ℕ, get_or}
use Rattle.value_tracker.proofs.start.next_after.Given as goal

abbrev pub invariant-loop-i : goal.invariant-loop-i
invariant-loop-i l = record {
  some : 0 < l.next;
  below : (j : ℕ) → j < l.i → get_or l.settled j 0 < l.next;
}
