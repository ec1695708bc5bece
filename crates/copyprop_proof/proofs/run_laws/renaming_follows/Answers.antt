use Rattle.copyprop_proof.proofs.Renamed.{renaming_follows}
use Rattle.copyprop_proof.proofs.run_laws.renaming_follows.Goals as goal

pub returns : goal.returns
returns c = renaming_follows
