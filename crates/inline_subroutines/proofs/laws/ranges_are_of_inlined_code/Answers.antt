use Rattle.inline_subroutines.proofs.Made.{of_subroutines}
use Rattle.inline_subroutines.proofs.laws.ranges_are_of_inlined_code.Goals as goal

pub returns : goal.returns
returns c = of_subroutines
