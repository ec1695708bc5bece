use Rattle.compile_theorem.proofs.HaveWords.{compiled_has_words}
use Rattle.compile_theorem.proofs.laws.compiled_has_words.Goals as goal

pub returns : goal.returns
returns c = compiled_has_words
