use Rattle.value_proof.proofs.Keeping.{kept_values_sit}
use Rattle.value_proof.proofs.kept_laws.kept_values_sit.Goals as goal

pub returns : goal.returns
returns c = kept_values_sit
