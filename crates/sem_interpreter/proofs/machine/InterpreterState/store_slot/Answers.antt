use Rattle.sem_interpreter.proofs.Rows.{slot_stores_so, slot_stores_faults, faults}
use Rattle.sem_interpreter.proofs.machine.InterpreterState.store_slot.Goals as goal

pub returns-in_ok-write-in-Some-clause-ok : goal.returns-in_ok-write-in-Some-clause-ok
returns-in_ok-write-in-Some-clause-ok c =
    slot_stores_so c.args.self.now c.write.new.self c.args.rs c.args.slot c.in-Some.value c.in-Some.ensures c.in_ok-write-in-Some.ensures.ok

pub returns-in-None-clause-ok : goal.returns-in-None-clause-ok
returns-in-None-clause-ok c = faults c.args.self.now _ (slot_stores_faults c.args.self.now c.args.rs c.args.slot c.in-None.ensures)
