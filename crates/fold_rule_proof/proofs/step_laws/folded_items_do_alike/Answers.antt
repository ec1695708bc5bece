use Rattle.fold_rule_proof.proofs.StepAlike.{items_do_alike}
use Rattle.fold_rule_proof.proofs.step_laws.folded_items_do_alike.Goals as goal

pub returns : goal.returns
returns c = items_do_alike
