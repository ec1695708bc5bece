use Rattle.readback_functions.proofs.Known.{bodies_are_known}
use Rattle.readback_functions.proofs.body_laws.bodies_are_known.Goals as goal

pub returns : goal.returns
returns c = bodies_are_known
