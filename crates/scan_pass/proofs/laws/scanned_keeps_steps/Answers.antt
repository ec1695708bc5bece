use Rattle.scan_pass.proofs.Scanned.{scanned_keeps_steps}
use Rattle.scan_pass.proofs.laws.scanned_keeps_steps.Goals as goal

pub returns : goal.returns
returns c = scanned_keeps_steps
