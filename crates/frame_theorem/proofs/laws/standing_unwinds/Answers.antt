use Rattle.frame_theorem.proofs.Finds.{standing_unwinds}
use Rattle.frame_theorem.proofs.laws.standing_unwinds.Goals as goal

pub returns : goal.returns
returns c = standing_unwinds
