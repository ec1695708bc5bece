use Rattle.listing_meaning.proofs.Framing.{function_shown}
use Rattle.listing_meaning.proofs.Settling.{items_shown_all}
use Rattle.listing_meaning.proofs.laws.listings_show_the_function.Goals as goal

pub returns-clause-function : goal.returns-clause-function
returns-clause-function c = function_shown

pub returns-clause-items : goal.returns-clause-items
returns-clause-items c = items_shown_all
