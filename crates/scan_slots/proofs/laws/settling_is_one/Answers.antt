use Rattle.scan_slots.proofs.One.{settling_is_one}
use Rattle.scan_slots.proofs.laws.settling_is_one.Goals as goal

pub returns : goal.returns
returns c = settling_is_one
