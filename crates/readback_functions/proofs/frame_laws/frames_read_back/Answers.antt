use Rattle.readback_functions.proofs.Frames.{frames_read_back}
use Rattle.readback_functions.proofs.frame_laws.frames_read_back.Goals as goal

pub returns : goal.returns
returns c = frames_read_back
