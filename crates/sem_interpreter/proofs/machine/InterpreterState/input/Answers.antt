use Rattle.std.proofs.Common.{subst}
use Rattle.std.specs.Option.{option_copied}
use Rattle.rv64_instr.specs.declared.decoded.Input.{Input}
use Rattle.rv64_instr.specs.Decoded.{ShowsInput}
use Rattle.sem_interpreter.proofs.Inputs.{at_content, at_number, at_part}
use Rattle.sem_interpreter.proofs.machine.InterpreterState.input.Goals as goal

pub returns-in-Content : goal.returns-in-Content
returns-in-Content c = λ x is s holds.
    at_content c.args.self.now c.in-Content.r c.read.result x (subst (λ (i : Input). ShowsInput i x) c.in-Content.is is.0) c.read.ensures s holds

pub returns-in-Number : goal.returns-in-Number
returns-in-Number c = λ x is s holds. at_number c.in-Number.n x (subst (λ (i : Input). ShowsInput i x) c.in-Number.is is.0) s

pub returns-in-PartOf : goal.returns-in-PartOf
returns-in-PartOf c = λ x is s holds.
    at_part c.args.self.now c.in-PartOf.half (option_copied c.args.linked) c.part.result x (subst (λ (i : Input). ShowsInput i x) c.in-PartOf.is is.0) is.1
    c.part.ensures s holds
