use Rattle.scan_pass.proofs.CodeAlone.{scan_sees_code_alone}
use Rattle.scan_pass.proofs.laws.scan_sees_code_alone.Goals as goal

pub returns : goal.returns
returns c = scan_sees_code_alone
