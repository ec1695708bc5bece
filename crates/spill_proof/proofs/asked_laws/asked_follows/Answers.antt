use Rattle.spill_proof.proofs.Following.{asked_follows}
use Rattle.spill_proof.proofs.asked_laws.asked_follows.Goals as goal

pub returns : goal.returns
returns c = asked_follows
