use Rattle.value_proof.proofs.Keeping.{kept_values_are_wanted}
use Rattle.value_proof.proofs.kept_laws.kept_values_are_wanted.Goals as goal

pub returns : goal.returns
returns c = kept_values_are_wanted
