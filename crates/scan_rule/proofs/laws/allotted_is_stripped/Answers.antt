use Rattle.scan_rule.proofs.Bare.{allotted_is_stripped}
use Rattle.scan_rule.proofs.laws.allotted_is_stripped.Goals as goal

pub returns : goal.returns
returns c = allotted_is_stripped
