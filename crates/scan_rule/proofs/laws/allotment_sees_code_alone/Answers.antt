use Rattle.scan_rule.proofs.Originless.{allotment_sees_code_alone}
use Rattle.scan_rule.proofs.laws.allotment_sees_code_alone.Goals as goal

pub returns : goal.returns
returns c = allotment_sees_code_alone
