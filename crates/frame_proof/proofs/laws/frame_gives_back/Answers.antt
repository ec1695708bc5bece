use Rattle.frame_proof.proofs.FrameStands.{frame_gives_back}
use Rattle.frame_proof.proofs.laws.frame_gives_back.Goals as goal

pub returns : goal.returns
returns c = frame_gives_back
