use Rattle.listing_text.proofs.OneOutput.{one_reading}
use Rattle.listing_text.proofs.laws.one_reading.Goals as goal

pub returns : goal.returns
returns c = one_reading
