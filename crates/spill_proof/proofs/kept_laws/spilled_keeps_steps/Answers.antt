use Rattle.spill_proof.proofs.Kept.{keeps_steps}
use Rattle.spill_proof.proofs.kept_laws.spilled_keeps_steps.Goals as goal

pub returns : goal.returns
returns c = keeps_steps
