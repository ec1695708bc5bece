use Rattle.std.proofs.Common.{◌≡◌, length}
use Rattle.value_tracker.specs.LocationTracker.{PLACES}
use Rattle.value_tracker.specs.Start.{PlacedBelow}
use Rattle.value_tracker.proofs.start.place.Given as goal

abbrev pub invariant-loop-i : goal.invariant-loop-i
invariant-loop-i l = record {
  count : length l.places.items ≡ PLACES;
  placed : PlacedBelow l.things l.settled l.i l.places.items;
}
