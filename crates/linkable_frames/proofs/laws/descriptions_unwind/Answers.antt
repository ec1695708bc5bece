use Rattle.linkable_frames.proofs.Descriptions.{descriptions_unwind}
use Rattle.linkable_frames.proofs.laws.descriptions_unwind.Goals as goal

pub returns : goal.returns
returns c = descriptions_unwind
