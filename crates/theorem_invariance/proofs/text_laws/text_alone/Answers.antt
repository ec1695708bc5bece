use Rattle.theorem_invariance.proofs.Text.{text_alone, alike_text, same_text}
use Rattle.theorem_invariance.proofs.text_laws.text_alone.Goals as goal

pub returns-clause-alone : goal.returns-clause-alone
returns-clause-alone c = text_alone

pub returns-clause-alike : goal.returns-clause-alike
returns-clause-alike c = alike_text

pub returns-clause-same : goal.returns-clause-same
returns-clause-same c = same_text
