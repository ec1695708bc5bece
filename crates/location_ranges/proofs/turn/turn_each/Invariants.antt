use Rattle.location_ranges.specs.steps.Saying.{TurnedBelow}
use Rattle.location_ranges.proofs.turn.turn_each.Given as goal

abbrev pub invariant-loop-k : goal.invariant-loop-k
invariant-loop-k l = TurnedBelow l.groups l.places l.address l.initial.tracks.items l.k l.tracks.items
