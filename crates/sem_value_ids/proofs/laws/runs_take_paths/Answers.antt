use Rattle.sem_value_ids.proofs.Paths.{runs_take_paths}
use Rattle.sem_value_ids.proofs.laws.runs_take_paths.Goals as goal

pub returns : goal.returns
returns c = runs_take_paths
