use Rattle.machine_steps_proof.proofs.Quiet.{starts_beside}
use Rattle.machine_steps_proof.proofs.step_laws.starts_beside.Goals as goal

pub returns : goal.returns
returns c = starts_beside
