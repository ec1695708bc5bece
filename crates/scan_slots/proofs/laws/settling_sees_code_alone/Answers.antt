use Rattle.scan_slots.proofs.Originless.{settling_sees_code_alone}
use Rattle.scan_slots.proofs.laws.settling_sees_code_alone.Goals as goal

pub returns : goal.returns
returns c = settling_sees_code_alone
