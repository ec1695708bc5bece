use Rattle.debug_placement.proofs.LineProofs.{lines_placed}
use Rattle.debug_placement.proofs.laws.placed_lines_are_moved.Goals as goal

pub returns : goal.returns
returns c = lines_placed
