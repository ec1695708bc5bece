use Rattle.sem_agreement.proofs.Items.{items_are_alike}
use Rattle.sem_agreement.proofs.laws.items_are_alike.Goals as goal

pub returns : goal.returns
returns g c = items_are_alike g.L.Likeness.held g.L.Likeness.free
