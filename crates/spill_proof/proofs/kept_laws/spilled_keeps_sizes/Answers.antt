use Rattle.spill_proof.proofs.Kept.{keeps_sizes}
use Rattle.spill_proof.proofs.kept_laws.spilled_keeps_sizes.Goals as goal

pub returns : goal.returns
returns c = keeps_sizes
