use Rattle.std.proofs.Common.{◌≡◌, ◌<◌, ◌≤◌, ℕ, length}
use Rattle.std.specs.Prelude.{None, false, cond, slice_index, slice_index_or}
use Rattle.value_tracker.specs.ClassLocation.{place_of}
use Rattle.location_ranges.proofs.places.place_parts.Given as goal

abbrev pub invariant-loop-j : goal.invariant-loop-j
invariant-loop-j l = record {
  count : length l.places.items ≡ length l.initial.places.items;
  flags : length l.changed.items ≡ length l.initial.places.items;
  set : (k : ℕ) → k < l.j →
      slice_index_or l.places.items k None
      ≡ cond l.stand.reached (place_of l.firsts l.stand.constants.items (slice_index l.stand.held.parts.items k)) None;
  rest : (k : ℕ) → l.j ≤ k → slice_index_or l.places.items k None ≡ slice_index_or l.initial.places.items k None;
  same : (k : ℕ) → k < l.j → slice_index_or l.changed.items k false ≡ false →
      slice_index_or l.initial.places.items k None ≡ slice_index_or l.places.items k None;
  quiet : l.any ≡ false → (k : ℕ) → k < l.j → slice_index_or l.changed.items k false ≡ false;
}
