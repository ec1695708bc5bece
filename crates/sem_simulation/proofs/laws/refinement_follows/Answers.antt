use Rattle.sem_simulation.proofs.Refinement.{refinement_follows}
use Rattle.sem_simulation.proofs.laws.refinement_follows.Goals as goal

pub returns : goal.returns
returns g c = refinement_follows g.R.Refinement.related
