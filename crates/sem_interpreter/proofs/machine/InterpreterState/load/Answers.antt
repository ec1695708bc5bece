use Rattle.sem_interpreter.proofs.Rows.{loads_so, loads_faults, faults}
use Rattle.sem_interpreter.proofs.machine.InterpreterState.load.Goals as goal

pub returns-in-Some : goal.returns-in-Some
returns-in-Some c x is =
    loads_so c.args.self.now _ c.load_from.result c.args.rd c.in-Some.address c.args.offset c.args.op x (c.in-Some.ensures x is)
    (c.load_from.ensures x is.0)

pub returns-in-None : goal.returns-in-None
returns-in-None c x is = faults c.args.self.now _ (loads_faults c.args.self.now c.args.rd c.args.offset c.args.op x (c.in-None.ensures x is))
