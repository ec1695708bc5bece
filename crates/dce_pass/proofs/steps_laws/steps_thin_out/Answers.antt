use Rattle.dce_pass.proofs.Thinned.{steps_thin_out}
use Rattle.dce_pass.proofs.steps_laws.steps_thin_out.Goals as goal

pub returns : goal.returns
returns c = steps_thin_out
