use Rattle.sem_value_ids.proofs.Along.{tokens_name_values}
use Rattle.sem_value_ids.proofs.laws.tokens_name_values.Goals as goal

pub returns : goal.returns
returns c = tokens_name_values
