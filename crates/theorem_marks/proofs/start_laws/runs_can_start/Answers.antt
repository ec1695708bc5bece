use Rattle.theorem_marks.proofs.Start.{runs_can_start}
use Rattle.theorem_marks.proofs.start_laws.runs_can_start.Goals as goal

pub returns : goal.returns
returns c = runs_can_start
