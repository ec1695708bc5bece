use Rattle.std.proofs.Common.{◌≡◌, Some, sym, ap, ◌∙◌}
use Rattle.std.specs.Option.{option_copied}
use Rattle.rv64_instr.specs.Linked.{addresses_in, linked_value}
use Rattle.sem_interpreter.proofs.Inputs.{one_address, no_address}
use Rattle.sem_interpreter.proofs.machine.InterpreterState.part.Goals as goal

pub returns-in-Some : goal.returns-in-Some
returns-in-Some c = λ y is.
    let same : y ≡ c.in-Some.address.now = one_address y c.in-Some.address.now (is ∙ ap option_copied c.in-Some.is) in
    ap Some (c.linked_value.ensures ∙ ap (linked_value (addresses_in c.args.self.now.symbols) c.args.half) (sym same))

pub returns-in-None : goal.returns-in-None
returns-in-None c = λ y is. absurd (no_address y (is ∙ ap option_copied c.in-None.is))
