use Rattle.frame_theorem.proofs.Compiled.{compiled_unwinds}
use Rattle.linkable_command.specs.Linkable.{LOST}
use Rattle.linkable_frames.proofs.Spared.{lost_spared}
use Rattle.linkable_frames.proofs.laws.linkable_frames_unwind.Goals as goal

pub returns : goal.returns
returns c = λ names functions o are codes coded section frames. compiled_unwinds names functions o are codes coded LOST section lost_spared frames
