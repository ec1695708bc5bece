use Rattle.sem_interpreter.proofs.Again.{returns_again}
use Rattle.sem_interpreter.proofs.state.returns_again.Goals as goal

pub returns : goal.returns
returns c = returns_again
