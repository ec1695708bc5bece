use Rattle.frame_proof.proofs.FrameStands.{frame_stands}
use Rattle.frame_proof.proofs.laws.frame_stands.Goals as goal

pub returns : goal.returns
returns c = frame_stands
