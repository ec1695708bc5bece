use Rattle.inline_subroutines.proofs.Ordered.{subroutines_ordered}
use Rattle.inline_subroutines.proofs.laws.subroutines_are_ordered.Goals as goal

pub returns : goal.returns
returns c = subroutines_ordered
