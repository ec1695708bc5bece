use Rattle.report_command.proofs.Reported.{compilations_are_reported}
use Rattle.report_command.proofs.laws.compilations_are_reported.Goals as goal

pub returns : goal.returns
returns c = compilations_are_reported
