use Rattle.listing_proof.proofs.Framed.{bodies_are_printable}
use Rattle.listing_proof.proofs.laws.bodies_are_printable.Goals as goal

pub returns : goal.returns
returns c = bodies_are_printable
