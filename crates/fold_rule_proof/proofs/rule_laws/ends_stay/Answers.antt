use Rattle.fold_rule_proof.proofs.Staying.{ends_stay}
use Rattle.fold_rule_proof.proofs.rule_laws.ends_stay.Goals as goal

pub returns : goal.returns
returns c = ends_stay
