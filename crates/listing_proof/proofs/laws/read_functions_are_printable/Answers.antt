use Rattle.listing_proof.proofs.Framed.{printable}
use Rattle.listing_proof.proofs.laws.read_functions_are_printable.Goals as goal

pub returns : goal.returns
returns c = printable
