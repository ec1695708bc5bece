use Rattle.sem_mir.proofs.Reading.{follows_itself, whole_ends_of_itself}
use Rattle.sem_mir.proofs.laws.source_follows_itself.Goals as goal

pub returns : goal.returns
returns c = λ objects blocks resolve read. (follows_itself blocks read resolve objects, whole_ends_of_itself blocks read resolve objects)
