use Rattle.std.proofs.Common.{◌≡◌, length}
use Rattle.location_ranges.specs.steps.Places.{IsEmpty}
use Rattle.location_ranges.proofs.places.extend.Given as goal

abbrev pub invariant-loop : goal.invariant-loop
invariant-loop l = record { count : length l.firsts.items ≡ l.counter; empty : IsEmpty l.firsts.items }
