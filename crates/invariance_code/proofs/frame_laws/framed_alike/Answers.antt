use Rattle.invariance_code.proofs.Alike.{frames_alike}
use Rattle.invariance_code.proofs.Strips.{frames_same}
use Rattle.invariance_code.proofs.frame_laws.framed_alike.Goals as goal

pub returns-clause-alike : goal.returns-clause-alike
returns-clause-alike c = frames_alike

pub returns-clause-same : goal.returns-clause-same
returns-clause-same c = frames_same
