use Rattle.frame_table.proofs.Shown.{sections_show_frames}
use Rattle.frame_table.proofs.laws.sections_show_frames.Goals as goal

pub returns : goal.returns
returns c = sections_show_frames
