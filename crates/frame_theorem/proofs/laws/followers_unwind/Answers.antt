use Rattle.frame_theorem.proofs.Unwinds.{followers_unwind}
use Rattle.frame_theorem.proofs.laws.followers_unwind.Goals as goal

pub returns : goal.returns
returns c = followers_unwind
