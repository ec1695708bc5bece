use Rattle.value_proof.proofs.Wanted.{first_by_class_is_wanted}
use Rattle.value_proof.proofs.path_laws.first_by_class_is_wanted.Goals as goal

pub returns : goal.returns
returns c = first_by_class_is_wanted
