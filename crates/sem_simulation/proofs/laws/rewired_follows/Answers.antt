use Rattle.sem_simulation.proofs.Rewired.{rewired_follows}
use Rattle.sem_simulation.proofs.laws.rewired_follows.Goals as goal

pub returns : goal.returns
returns g c = rewired_follows g.W.Rewiring.match_states
