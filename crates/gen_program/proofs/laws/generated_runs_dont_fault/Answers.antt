use Rattle.gen_program.proofs.Steps.{generated_runs_dont_fault}
use Rattle.gen_program.proofs.laws.generated_runs_dont_fault.Goals as goal

pub returns : goal.returns
returns c = generated_runs_dont_fault
