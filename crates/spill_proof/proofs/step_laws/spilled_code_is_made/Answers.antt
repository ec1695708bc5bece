use Rattle.spill_proof.proofs.Made.{spilled_code_is_made}
use Rattle.spill_proof.proofs.step_laws.spilled_code_is_made.Goals as goal

pub returns : goal.returns
returns c = spilled_code_is_made
