use Rattle.std.proofs.Common.{refl}
use Rattle.sem_interpreter.proofs.Rows.{sets_so, slot_loads_so, slot_loads_faults, faults}
use Rattle.sem_interpreter.proofs.machine.InterpreterState.load_slot.Goals as goal

pub returns-in-Some : goal.returns-in-Some
returns-in-Some c = sets_so c.args.self.now c.write.new.self _ c.args.rd c.in-Some.value (λ p. refl) c.write.ensures
    (slot_loads_so c.args.self.now c.args.rd c.args.slot c.in-Some.value c.in-Some.ensures)

pub returns-in-None : goal.returns-in-None
returns-in-None c = faults c.args.self.now _ (slot_loads_faults c.args.self.now c.args.rd c.args.slot c.in-None.ensures)
