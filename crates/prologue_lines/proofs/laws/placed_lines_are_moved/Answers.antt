use Rattle.prologue_lines.proofs.Placed.{lines_placed}
use Rattle.prologue_lines.proofs.laws.placed_lines_are_moved.Goals as goal

pub returns : goal.returns
returns c = lines_placed
