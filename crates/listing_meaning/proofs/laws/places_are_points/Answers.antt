use Rattle.listing_meaning.proofs.Places.{places_are_points}
use Rattle.listing_meaning.proofs.laws.places_are_points.Goals as goal

pub returns : goal.returns
returns c = places_are_points
