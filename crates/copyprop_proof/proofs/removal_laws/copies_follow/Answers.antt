use Rattle.copyprop_proof.proofs.Follows.{copies_follow}
use Rattle.copyprop_proof.proofs.removal_laws.copies_follow.Goals as goal

pub returns : goal.returns
returns c = copies_follow
