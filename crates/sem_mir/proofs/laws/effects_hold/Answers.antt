use Rattle.sem_mir.proofs.Parts.{effects_hold}
use Rattle.sem_mir.proofs.laws.effects_hold.Goals as goal

pub returns : goal.returns
returns c = effects_hold
