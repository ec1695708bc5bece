use Rattle.sem_simulation.proofs.InPlace.{in_place_follows}
use Rattle.sem_simulation.proofs.laws.in_place_follows.Goals as goal

pub returns : goal.returns
returns g c = in_place_follows g.C.BlockChange.match_states
