use Rattle.fold_proof.proofs.Along.{folded_runs_along}
use Rattle.fold_proof.proofs.run_laws.folded_runs_along.Goals as goal

pub returns : goal.returns
returns c = folded_runs_along
