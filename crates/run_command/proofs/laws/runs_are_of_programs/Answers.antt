use Rattle.run_command.proofs.Source.{runs_are_of_programs, all_names_are_read}
use Rattle.run_command.proofs.laws.runs_are_of_programs.Goals as goal

pub returns-clause-runs : goal.returns-clause-runs
returns-clause-runs c = runs_are_of_programs

pub returns-clause-names : goal.returns-clause-names
returns-clause-names c = all_names_are_read
