use Rattle.scan_slots.proofs.Kept.{settled_keeps_step}
use Rattle.scan_slots.proofs.laws.settled_keeps_step.Goals as goal

pub returns : goal.returns
returns c = settled_keeps_step
