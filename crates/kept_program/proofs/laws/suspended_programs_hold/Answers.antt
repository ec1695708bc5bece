use Rattle.kept_program.proofs.Holding.{suspended_programs_hold}
use Rattle.kept_program.proofs.laws.suspended_programs_hold.Goals as goal

pub returns : goal.returns
returns c = suspended_programs_hold
