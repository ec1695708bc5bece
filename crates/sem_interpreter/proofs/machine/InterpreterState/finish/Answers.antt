use Rattle.std.proofs.Common.{ap, sym, ◌∙◌}
use Rattle.sem_mir.specs.Step.{are_written}
use Rattle.sem_interpreter.proofs.Rows.{faults}
use Rattle.sem_interpreter.proofs.Ends.{returns_so, returns_faults}
use Rattle.sem_interpreter.proofs.machine.InterpreterState.finish.Goals as goal

pub returns-then-are_written : goal.returns-then-are_written
returns-then-are_written c = λ ending same. returns_so c.args.self.now ending
    (λ s holds. c.if-are_written.ensures s holds ∙ ap (are_written s) (sym same))

pub returns-else-are_written : goal.returns-else-are_written
returns-else-are_written c = λ ending same. faults c.args.self.now _ (returns_faults c.args.self.now ending
    (λ s holds. c.if-are_written.ensures s holds ∙ ap (are_written s) (sym same)))
