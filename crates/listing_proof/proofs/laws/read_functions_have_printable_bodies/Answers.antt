use Rattle.listing_proof.proofs.Framed.{read_bodies}
use Rattle.listing_proof.proofs.laws.read_functions_have_printable_bodies.Goals as goal

pub returns : goal.returns
returns c = read_bodies
