use Rattle.inline_subroutines.proofs.Made.{ascend_of_subroutines}
use Rattle.inline_subroutines.proofs.laws.ranges_ascend.Goals as goal

pub returns : goal.returns
returns c = ascend_of_subroutines
