use Rattle.listing_function.proofs.Printed.{printable}
use Rattle.listing_function.proofs.laws.listings_are_printable.Goals as goal

pub returns : goal.returns
returns c = printable
