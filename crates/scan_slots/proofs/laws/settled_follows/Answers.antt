use Rattle.scan_slots.proofs.Following.{settled_follows}
use Rattle.scan_slots.proofs.laws.settled_follows.Goals as goal

pub returns : goal.returns
returns c = settled_follows
