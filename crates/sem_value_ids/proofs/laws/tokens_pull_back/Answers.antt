use Rattle.sem_value_ids.proofs.Backwards.{tokens_pull_back}
use Rattle.sem_value_ids.proofs.laws.tokens_pull_back.Goals as goal

pub returns : goal.returns
returns c = tokens_pull_back
