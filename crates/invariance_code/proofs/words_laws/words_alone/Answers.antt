use Rattle.invariance_code.proofs.Alone.{code_has_words, alike_code, same_code}
use Rattle.invariance_code.proofs.words_laws.words_alone.Goals as goal

pub returns-clause-stripped : goal.returns-clause-stripped
returns-clause-stripped c = code_has_words

pub returns-clause-alike : goal.returns-clause-alike
returns-clause-alike c = alike_code

pub returns-clause-same : goal.returns-clause-same
returns-clause-same c = same_code
