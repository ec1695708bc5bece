use Rattle.std.proofs.Common.{◌≡◌, ℕ, length, slice_index_or, None}
use Rattle.scan_liveness.proofs.liveness.no_extents.Given as goal

abbrev pub invariant-loop : goal.invariant-loop
invariant-loop l = record {
  long : length l.extents.items ≡ l.counter;
  none : (k : ℕ) → slice_index_or l.extents.items k None ≡ None;
}
