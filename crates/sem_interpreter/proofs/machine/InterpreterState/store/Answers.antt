use Rattle.std.specs.Option.{option_copied}
use Rattle.sem_interpreter.proofs.Rows.{stores_ok, stores_faults_first, stores_faults_second, faults}
use Rattle.sem_interpreter.proofs.machine.InterpreterState.store.Goals as goal

pub returns-in_default-clause-ok : goal.returns-in_default-clause-ok
returns-in_default-clause-ok c = λ x is.
    faults c.args.self.now _ (stores_faults_first c.args.self.now c.args.rs c.args.offset c.args.op x c.in_default.ensures)

pub returns-in_default-address-clause-ok : goal.returns-in_default-address-clause-ok
returns-in_default-address-clause-ok c = λ x is.
    faults c.args.self.now _ (stores_faults_second c.args.self.now c.args.rs c.args.offset c.args.op x (c.in_default-address.ensures x is))

pub returns-clause-ok : goal.returns-clause-ok
returns-clause-ok c =
    stores_ok c.args.self.now c.store_to.new.self c.args.rs c.in-Some.value c.in-Some-address.address c.args.offset c.args.op c.args.base
    (option_copied c.args.linked) c.in-Some.ensures c.in-Some-address.ensures c.store_to.result c.store_to.ensures.ok
