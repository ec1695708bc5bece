use Rattle.linkable_frames.proofs.Spared.{lost_spared}
use Rattle.linkable_frames.proofs.laws.lost_registers_are_spared.Goals as goal

pub returns : goal.returns
returns c = lost_spared
