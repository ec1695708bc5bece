use Rattle.text_placement.proofs.PlacedText.{words_linked}
use Rattle.text_placement.proofs.laws.placed_words_are_linked.Goals as goal

pub returns : goal.returns
returns c = words_linked
