use Rattle.invariance_code.proofs.Strips.{frames_strip}
use Rattle.invariance_code.proofs.frame_laws.frames_strip.Goals as goal

pub returns : goal.returns
returns c = frames_strip
