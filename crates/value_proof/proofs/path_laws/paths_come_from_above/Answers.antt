use Rattle.value_proof.proofs.Passing.{paths_come_from_above}
use Rattle.value_proof.proofs.path_laws.paths_come_from_above.Goals as goal

pub returns : goal.returns
returns c = paths_come_from_above
