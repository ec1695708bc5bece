use Rattle.std.proofs.Common.{refl}
use Rattle.sem_interpreter.proofs.Rows.{sets_so, moves_so, moves_faults, faults}
use Rattle.sem_interpreter.proofs.machine.InterpreterState.copy.Goals as goal

pub returns-in-Some : goal.returns-in-Some
returns-in-Some c = sets_so c.args.self.now c.write.new.self _ c.args.rd c.in-Some.value (λ p. refl) c.write.ensures
    (moves_so c.args.self.now c.args.rd c.args.rs c.in-Some.value c.in-Some.ensures)

pub returns-in-None : goal.returns-in-None
returns-in-None c = faults c.args.self.now _ (moves_faults c.args.self.now c.args.rd c.args.rs c.in-None.ensures)
