use Rattle.run_command.proofs.Runs.{compilations_can_run}
use Rattle.run_command.proofs.Shown.{compilations_show_code}
use Rattle.run_command.proofs.laws.compilations_can_run.Goals as goal

pub returns-clause-can_run : goal.returns-clause-can_run
returns-clause-can_run c = compilations_can_run

pub returns-clause-shown : goal.returns-clause-shown
returns-clause-shown c = compilations_show_code
