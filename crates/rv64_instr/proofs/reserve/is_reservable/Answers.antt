use Rattle.std.proofs.lemmas.Bool.Decides.{Decides-eqb}
use Rattle.std.proofs.lemmas.List.Elements.{contains_decides, Decides-contains}
use Rattle.std.proofs.Common.{eqb}
use Rattle.rv64_instr.specs.Reserve.{RESERVABLE}
use Rattle.rv64_instr.proofs.reserve.is_reservable.Goals as goal

pub returns : goal.returns
returns c =
    Decides-contains RESERVABLE c.args.number c.contains.result
    (contains_decides eqb Decides-eqb RESERVABLE c.args.number c.contains.result c.contains.ensures.cases)
