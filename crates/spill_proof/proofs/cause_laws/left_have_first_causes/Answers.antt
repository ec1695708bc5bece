use Rattle.spill_proof.proofs.Left.{left_have_first_causes}
use Rattle.spill_proof.proofs.cause_laws.left_have_first_causes.Goals as goal

pub returns : goal.returns
returns c = left_have_first_causes
