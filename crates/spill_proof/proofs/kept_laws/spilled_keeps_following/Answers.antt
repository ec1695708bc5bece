use Rattle.spill_proof.proofs.Kept.{keeps_following}
use Rattle.spill_proof.proofs.kept_laws.spilled_keeps_following.Goals as goal

pub returns : goal.returns
returns c = keeps_following
