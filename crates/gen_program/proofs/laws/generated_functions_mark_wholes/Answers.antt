use Rattle.gen_program.proofs.Steps.{generated_functions_mark_wholes}
use Rattle.gen_program.proofs.laws.generated_functions_mark_wholes.Goals as goal

pub returns : goal.returns
returns c = generated_functions_mark_wholes
