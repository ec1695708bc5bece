use Rattle.sem_simulation.proofs.Added.{added_follows}
use Rattle.sem_simulation.proofs.laws.added_follows.Goals as goal

pub returns : goal.returns
returns g c = added_follows g.A.CodeAddition.match_states
