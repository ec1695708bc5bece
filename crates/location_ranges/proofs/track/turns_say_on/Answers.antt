use Rattle.location_ranges.proofs.Turning.{turns_say_on}
use Rattle.location_ranges.proofs.track.turns_say_on.Goals as goal

pub returns : goal.returns
returns c = turns_say_on
