use Rattle.value_proof.proofs.Passing.{classes_pass_items}
use Rattle.value_proof.proofs.path_laws.classes_pass_items.Goals as goal

pub returns : goal.returns
returns c = classes_pass_items
