use Rattle.copyprop_proof.proofs.Kept.{copies_keep}
use Rattle.copyprop_proof.proofs.debug_laws.copies_keep_items.Goals as goal

pub returns : goal.returns
returns c = copies_keep
