use Rattle.fold_rule_proof.proofs.RuleAlike.{sees_code}
use Rattle.fold_rule_proof.proofs.rule_laws.folding_sees_code_alone.Goals as goal

pub returns : goal.returns
returns c = sees_code
