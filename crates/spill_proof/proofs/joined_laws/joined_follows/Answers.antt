use Rattle.spill_proof.proofs.Joined.{joined_follows}
use Rattle.spill_proof.proofs.joined_laws.joined_follows.Goals as goal

pub returns : goal.returns
returns c = joined_follows
