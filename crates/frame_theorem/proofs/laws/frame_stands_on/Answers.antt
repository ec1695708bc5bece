use Rattle.frame_theorem.proofs.StandsOn.{frame_stands_on}
use Rattle.frame_theorem.proofs.laws.frame_stands_on.Goals as goal

pub returns : goal.returns
returns c = frame_stands_on
