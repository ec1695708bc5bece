use Rattle.scope_ranges.proofs.Members.{of_scoped_code}
use Rattle.scope_ranges.proofs.laws.ranges_are_of_scoped_code.Goals as goal

pub returns : goal.returns
returns c = of_scoped_code
