use Rattle.readback_strip.proofs.Texts.{stripped_texts_are_read}
use Rattle.readback_strip.proofs.laws.stripped_texts_are_read.Goals as goal

pub returns : goal.returns
returns c = stripped_texts_are_read
