use Rattle.program_rows.proofs.Standing.{rows_stand}
use Rattle.program_rows.proofs.laws.program_rows_stand.Goals as goal

pub returns : goal.returns
returns c = rows_stand
