use Rattle.text_placement.proofs.PlacedText.{words_stay}
use Rattle.text_placement.proofs.laws.other_words_stay.Goals as goal

pub returns : goal.returns
returns c = words_stay
