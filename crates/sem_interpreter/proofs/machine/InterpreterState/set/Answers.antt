use Rattle.std.proofs.Common.{refl}
use Rattle.sem_interpreter.proofs.Rows.{sets_so, fixes_so}
use Rattle.sem_interpreter.proofs.machine.InterpreterState.set.Goals as goal

pub returns : goal.returns
returns c = sets_so c.args.self.now c.write.new.self _ c.args.rd c.args.n (λ p. refl) c.write.ensures (λ s _. fixes_so c.args.rd c.args.n s)
