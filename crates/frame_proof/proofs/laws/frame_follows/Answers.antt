use Rattle.frame_proof.proofs.FrameFollows.{frame_follows}
use Rattle.frame_proof.proofs.laws.frame_follows.Goals as goal

pub returns : goal.returns
returns c = frame_follows
