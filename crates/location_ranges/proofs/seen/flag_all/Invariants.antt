use Rattle.std.proofs.Common.{◌≡◌, ◌≢◌, ◌<◌, ℕ}
use Rattle.std.specs.Prelude.{true, false, slice_index, slice_index_or}
use Rattle.location_ranges.proofs.seen.flag_all.Given as goal

abbrev pub invariant-loop-j : goal.invariant-loop-j
invariant-loop-j l = (k : ℕ) → k < l.j → slice_index l.classes k ≢ 0 → slice_index_or l.used.items (slice_index l.classes k) false ≡ true
