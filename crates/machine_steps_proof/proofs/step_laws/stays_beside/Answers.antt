use Rattle.machine_steps_proof.proofs.Quiet.{stays_beside}
use Rattle.machine_steps_proof.proofs.step_laws.stays_beside.Goals as goal

pub returns : goal.returns
returns c = stays_beside
