use Rattle.scan_allocation.proofs.Walking.{intervals_that_meet_are_apart}
use Rattle.scan_allocation.proofs.laws.intervals_that_meet_are_apart.Goals as goal

pub returns : goal.returns
returns c = intervals_that_meet_are_apart
