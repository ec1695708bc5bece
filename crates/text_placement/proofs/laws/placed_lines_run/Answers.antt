use Rattle.text_placement.proofs.LineProofs.{lines_placed}
use Rattle.text_placement.proofs.laws.placed_lines_run.Goals as goal

pub returns : goal.returns
returns c = lines_placed
