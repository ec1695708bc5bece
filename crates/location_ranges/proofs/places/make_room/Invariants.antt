use Rattle.std.proofs.Common.{◌<◌, ℕ, length}
use Rattle.std.specs.Prelude.{slice_index}
use Rattle.location_ranges.specs.steps.Places.{IsEmpty}
use Rattle.location_ranges.proofs.places.make_room.Given as goal

abbrev pub invariant-loop-i : goal.invariant-loop-i
invariant-loop-i l = record {
  empty : IsEmpty l.firsts.items;
  some : 0 < length l.firsts.items;
  room : (k : ℕ) → k < l.i → slice_index l.places k < length l.firsts.items;
}
