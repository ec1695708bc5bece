use Rattle.listing_meaning.proofs.Lying.{listings_lie}
use Rattle.listing_meaning.proofs.laws.listings_lie.Goals as goal

pub returns : goal.returns
returns c = listings_lie
