use Rattle.scan_pass.proofs.CodeAlone.{scan_is_one}
use Rattle.scan_pass.proofs.laws.scan_is_one.Goals as goal

pub returns : goal.returns
returns c = scan_is_one
