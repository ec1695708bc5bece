use Rattle.dce_pass.specs.PassLaws.{rounds_have_one_result, rounds_see_code_alone}
use Rattle.dce_pass.proofs.Chain.{rounds_keep_steps}
use Rattle.dce_pass.proofs.steps_laws.rounds_keep_steps.Goals as goal

pub returns : goal.returns
returns c = record { steps = rounds_keep_steps; one = rounds_have_one_result; same = rounds_see_code_alone }
