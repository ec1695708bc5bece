use Rattle.fold_proof.proofs.Follows.{folded_follows}
use Rattle.fold_proof.proofs.follow_laws.folded_follows.Goals as goal

pub returns : goal.returns
returns c = folded_follows
