use Rattle.readback_items.proofs.Bodies.{bodies_read_back}
use Rattle.readback_items.proofs.body_laws.bodies_read_back.Goals as goal

pub returns : goal.returns
returns c = bodies_read_back
