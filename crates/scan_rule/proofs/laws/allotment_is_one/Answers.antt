use Rattle.scan_rule.proofs.Same.{allotment_is_one}
use Rattle.scan_rule.proofs.laws.allotment_is_one.Goals as goal

pub returns : goal.returns
returns c = allotment_is_one
