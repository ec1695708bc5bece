use Rattle.machine_steps_proof.proofs.Quiet.{steps_beside}
use Rattle.machine_steps_proof.proofs.step_laws.steps_beside.Goals as goal

pub returns : goal.returns
returns c = steps_beside
