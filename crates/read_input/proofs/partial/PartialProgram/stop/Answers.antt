use Rattle.std.proofs.Common.{Some, ap}
use Rattle.read_input.proofs.Program.{stops-at}
use Rattle.read_input.proofs.partial.PartialProgram.stop.Goals as goal

pub returns-clause-stops : goal.returns-clause-stops
returns-clause-stops c =
    stops-at c.args.self.now c.read_on.new.self c.in_ok-read_on.ensures.read c.args.bad (Some c.unwrap_or.result) (ap Some c.unwrap_or.ensures)
