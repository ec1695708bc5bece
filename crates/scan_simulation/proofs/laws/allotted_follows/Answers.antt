use Rattle.scan_simulation.proofs.Following.{allotted_follows}
use Rattle.scan_simulation.proofs.laws.allotted_follows.Goals as goal

pub returns : goal.returns
returns c = allotted_follows
