use Rattle.scan_slots.proofs.Sizes.{settled_keeps_sizes}
use Rattle.scan_slots.proofs.laws.settled_keeps_sizes.Goals as goal

pub returns : goal.returns
returns c = settled_keeps_sizes
