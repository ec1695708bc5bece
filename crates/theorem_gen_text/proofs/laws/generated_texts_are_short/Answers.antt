use Rattle.theorem_gen_text.proofs.Sizes.{generated_texts_are_short}
use Rattle.theorem_gen_text.proofs.laws.generated_texts_are_short.Goals as goal

pub returns : goal.returns
returns c = generated_texts_are_short
