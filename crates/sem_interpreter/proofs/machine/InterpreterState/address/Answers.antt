use Rattle.std.proofs.Common.{subst}
use Rattle.std.specs.Option.{option_copied}
use Rattle.rv64_instr.specs.declared.decoded.Base.{Base}
use Rattle.rv64_instr.specs.Row.{PointedBy, ObjectAt}
use Rattle.rv64_instr.specs.Decoded.{ShowsBase}
use Rattle.sem_interpreter.proofs.Inputs.{at_base, at_beside}
use Rattle.sem_interpreter.proofs.machine.InterpreterState.address.Goals as goal

pub returns-in-PointedBy : goal.returns-in-PointedBy
returns-in-PointedBy c = λ x is s holds.
    at_base s c.args.offset c.pointed.result x (PointedBy c.in-PointedBy.r) (subst (λ (b : Base). ShowsBase b x) c.in-PointedBy.is is.0)
    (c.pointed.ensures s holds)

pub returns-in-ObjectAt : goal.returns-in-ObjectAt
returns-in-ObjectAt c = λ x is s holds.
    at_base s c.args.offset c.in_object.result x (ObjectAt c.in-ObjectAt.n) (subst (λ (b : Base). ShowsBase b x) c.in-ObjectAt.is is.0)
    (c.in_object.ensures s holds)

pub returns-in-BesidePart : goal.returns-in-BesidePart
returns-in-BesidePart c = λ x is s holds.
    at_beside s c.in-BesidePart.r c.args.offset (option_copied c.args.linked) c.beside.result x
    (subst (λ (b : Base). ShowsBase b x) c.in-BesidePart.is is.0) is.1 (λ y same. c.beside.ensures y (c.part.ensures y same) s holds)
