use Rattle.dce_rule.proofs.Chain.{loose_laws}
use Rattle.dce_rule.proofs.code_laws.loose_laws.Goals as goal

pub returns : goal.returns
returns c = loose_laws
