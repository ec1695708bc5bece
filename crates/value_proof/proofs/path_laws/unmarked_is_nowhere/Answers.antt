use Rattle.value_proof.proofs.Wanted.{unmarked_is_nowhere}
use Rattle.value_proof.proofs.path_laws.unmarked_is_nowhere.Goals as goal

pub returns : goal.returns
returns c = unmarked_is_nowhere
