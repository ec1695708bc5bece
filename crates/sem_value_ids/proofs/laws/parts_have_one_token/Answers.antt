use Rattle.sem_mir.proofs.Assignments.{one_assigned}
use Rattle.sem_value_ids.proofs.laws.parts_have_one_token.Goals as goal

pub returns : goal.returns
returns c = λ g start n p t path v w o s a b e f. one_assigned v w t.marks a b o s e f
