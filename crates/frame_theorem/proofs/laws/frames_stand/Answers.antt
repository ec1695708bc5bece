use Rattle.frame_theorem.proofs.Lines.{frames_stand}
use Rattle.frame_theorem.proofs.laws.frames_stand.Goals as goal

pub returns : goal.returns
returns c = frames_stand
