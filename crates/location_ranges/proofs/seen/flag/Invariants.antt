use Rattle.std.proofs.Common.{◌≡◌, ℕ, length}
use Rattle.std.specs.Prelude.{true, false, slice_index_or}
use Rattle.location_ranges.proofs.seen.flag.Given as goal

abbrev pub invariant-loop : goal.invariant-loop
invariant-loop l = record {
  count : length l.used.items ≡ l.counter;
  kept : (c : ℕ) → slice_index_or l.initial.used.items c false ≡ true → slice_index_or l.used.items c false ≡ true;
}
