use Rattle.spill_simulation.proofs.Following.{spilled_follows}
use Rattle.spill_simulation.proofs.laws.spilled_follows.Goals as goal

pub returns : goal.returns
returns c = spilled_follows
