use Rattle.std.proofs.Common.{◌≡◌, ℕ, get_or, length}
use Rattle.value_tracker.proofs.start.no_classes.Given as goal

abbrev pub invariant-loop : goal.invariant-loop
invariant-loop l = record {
  count : length l.places.items ≡ l.counter;
  empty : (p : ℕ) → get_or l.places.items p 0 ≡ 0;
}
