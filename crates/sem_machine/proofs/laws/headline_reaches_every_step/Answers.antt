use Rattle.sem_machine.proofs.EveryStep.{headline_reaches_every_step}
use Rattle.sem_machine.proofs.laws.headline_reaches_every_step.Goals as goal

pub returns : goal.returns
returns g c = headline_reaches_every_step g.L.LocationLists.gives
