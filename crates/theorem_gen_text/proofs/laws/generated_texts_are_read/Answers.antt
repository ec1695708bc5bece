use Rattle.theorem_gen_text.proofs.Texts.{generated_texts_are_read}
use Rattle.theorem_gen_text.proofs.laws.generated_texts_are_read.Goals as goal

pub returns : goal.returns
returns c = generated_texts_are_read
