use Rattle.sem_value_ids.proofs.Sharing.{sharing_pulls_back}
use Rattle.sem_value_ids.proofs.laws.sharing_pulls_back.Goals as goal

pub returns : goal.returns
returns c = sharing_pulls_back
