use Rattle.sem_value_ids.proofs.Sharing.{agreement_pulls_back}
use Rattle.sem_value_ids.proofs.laws.agreement_pulls_back.Goals as goal

pub returns : goal.returns
returns c = agreement_pulls_back
