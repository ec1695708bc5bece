use Rattle.sem_simulation.proofs.Words.{words_follow}
use Rattle.sem_simulation.proofs.laws.words_follow.Goals as goal

pub returns : goal.returns
returns g c = words_follow g.I.Inside.inner
