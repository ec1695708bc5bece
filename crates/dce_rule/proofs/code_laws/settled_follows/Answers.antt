use Rattle.dce_rule.proofs.Settled.{settled_follows}
use Rattle.dce_rule.proofs.code_laws.settled_follows.Goals as goal

pub returns : goal.returns
returns c = λ f subs sound round src fol. settled_follows f subs sound round src fol
