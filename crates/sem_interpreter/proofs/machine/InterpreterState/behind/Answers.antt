use Rattle.sem_interpreter.proofs.Rows.{beside_at, beside_nowhere}
use Rattle.sem_interpreter.proofs.machine.InterpreterState.behind.Goals as goal

pub returns-in-Some : goal.returns-in-Some
returns-in-Some c = λ y is s holds. rw is (beside_at c.args.self.now c.args.r c.in-Some.b c.args.offset y c.in-Some.ensures s holds)

pub returns-in-None : goal.returns-in-None
returns-in-None c = λ y is s holds. beside_nowhere c.args.self.now c.args.r c.args.offset y c.in-None.ensures s holds
