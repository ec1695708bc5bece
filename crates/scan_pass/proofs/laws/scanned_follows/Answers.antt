use Rattle.scan_pass.proofs.Scanned.{scanned_follows}
use Rattle.scan_pass.proofs.laws.scanned_follows.Goals as goal

pub returns : goal.returns
returns c = scanned_follows
