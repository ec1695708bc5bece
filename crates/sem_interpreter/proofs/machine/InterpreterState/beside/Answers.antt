use Rattle.std.proofs.Common.{sym, ◌∙◌}
use Rattle.rv64_instr.specs.declared.symbol.Half.TheVariants.{Lower}
use Rattle.rv64_instr.specs.Linked.{addresses_in, linked_value}
use Rattle.sem_interpreter.proofs.Inputs.{one_number, no_number}
use Rattle.sem_interpreter.proofs.machine.InterpreterState.beside.Goals as goal

pub returns-in-Some : goal.returns-in-Some
returns-in-Some c = λ y is s holds.
    let v = linked_value (addresses_in c.args.self.now.symbols) Lower y in
    c.behind.ensures y (one_number c.in-Some.value v (sym c.in-Some.is ∙ is)) s holds

pub returns-in-None : goal.returns-in-None
returns-in-None c = λ y is s holds. absurd (no_number (linked_value (addresses_in c.args.self.now.symbols) Lower y) (sym is ∙ c.in-None.is))
