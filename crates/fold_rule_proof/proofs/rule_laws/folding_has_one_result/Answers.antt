use Rattle.fold_rule_proof.proofs.One.{one_folded}
use Rattle.fold_rule_proof.proofs.rule_laws.folding_has_one_result.Goals as goal

pub returns : goal.returns
returns c = one_folded
