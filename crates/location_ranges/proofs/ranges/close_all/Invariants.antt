use Rattle.std.proofs.Common.{◌≡◌, ◌≤◌, ℕ, length}
use Rattle.std.specs.Prelude.{Some, List, slice_get}
use Rattle.dwarf_loclists.specs.declared.range.Range.{Range}
use Rattle.location_ranges.specs.declared.track.Track.{Track}
use Rattle.location_ranges.specs.Covered.{covered}
use Rattle.location_ranges.proofs.ranges.close_all.Given as goal

abbrev pub invariant-loop-k : goal.invariant-loop-k
invariant-loop-k l = record {
  count : length l.lists ≡ l.k;
  for_all : length l.tracks.items ≡ length l.initial.tracks.items;
  each : (j : ℕ) (ranges : List Range) → slice_get l.lists j ≡ Some ranges →
      (t : Track) × (slice_get l.initial.tracks.items j ≡ Some t) × (ranges ≡ covered t l.end);
  rest : (j : ℕ) (t : Track) → l.k ≤ j → slice_get l.tracks.items j ≡ Some t → slice_get l.initial.tracks.items j ≡ Some t;
}
