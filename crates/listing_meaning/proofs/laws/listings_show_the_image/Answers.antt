use Rattle.listing_meaning.proofs.Images.{image_shown}
use Rattle.listing_meaning.proofs.laws.listings_show_the_image.Goals as goal

pub returns : goal.returns
returns c = image_shown
