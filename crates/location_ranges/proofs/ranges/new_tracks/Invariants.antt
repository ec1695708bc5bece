use Rattle.std.proofs.Common.{◌≡◌, length}
use Rattle.std.specs.Prelude.{All}
use Rattle.location_ranges.specs.steps.Saying.{IsNew}
use Rattle.location_ranges.proofs.ranges.new_tracks.Given as goal

abbrev pub invariant-loop : goal.invariant-loop
invariant-loop l = record { count : length l.tracks.items ≡ l.counter; new : All IsNew l.tracks.items }
