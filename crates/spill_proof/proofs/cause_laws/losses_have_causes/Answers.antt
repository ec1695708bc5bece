use Rattle.spill_proof.proofs.Causes.{losses_have_causes}
use Rattle.spill_proof.proofs.cause_laws.losses_have_causes.Goals as goal

pub returns : goal.returns
returns c = losses_have_causes
