use Rattle.location_ranges.proofs.OneList.{ranges_are_unique}
use Rattle.location_ranges.proofs.laws.ranges_are_unique.Goals as goal

pub returns : goal.returns
returns c = ranges_are_unique
