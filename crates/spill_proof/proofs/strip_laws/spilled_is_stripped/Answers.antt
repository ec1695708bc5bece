use Rattle.spill_proof.proofs.Stripped.{spilled_is_stripped}
use Rattle.spill_proof.proofs.strip_laws.spilled_is_stripped.Goals as goal

pub returns : goal.returns
returns c = spilled_is_stripped
