-- Proofs that the pass needs for its own trait items. They are here and not in proofs/ since an implementation of the
-- trait of passes names them. Nothing here must be believed.
use Rattle.pass_trait.specs.Code.{HasOneResult, SeesCodeAlone}
use Rattle.fold_rule.specs.Rule.{IsFolded}
use Rattle.fold_rule_proof.proofs.One.{one_folded}
use Rattle.fold_rule_proof.proofs.RuleAlike.{sees_code}

-- the rule is functional
pub folding_has_one_result : HasOneResult IsFolded
folding_has_one_result = one_folded

-- the rule doesn't depend on positions
pub folding_sees_code_alone : SeesCodeAlone IsFolded
folding_sees_code_alone = sees_code
