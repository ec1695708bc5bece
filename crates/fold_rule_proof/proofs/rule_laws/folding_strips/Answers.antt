use Rattle.fold_rule_proof.proofs.Stripped.{strips}
use Rattle.fold_rule_proof.proofs.rule_laws.folding_strips.Goals as goal

pub returns : goal.returns
returns c = strips
