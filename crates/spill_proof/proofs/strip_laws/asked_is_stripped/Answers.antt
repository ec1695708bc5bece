use Rattle.spill_proof.proofs.Stripped.{asked_is_stripped}
use Rattle.spill_proof.proofs.strip_laws.asked_is_stripped.Goals as goal

pub returns : goal.returns
returns c = asked_is_stripped
