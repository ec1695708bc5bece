use Rattle.theorem_invariance.proofs.Passed.{passes_alone, passed_made, passed_text, passed_code}
use Rattle.theorem_invariance.proofs.passes_laws.passes_alone.Goals as goal

pub returns-clause-code : goal.returns-clause-code
returns-clause-code c = passes_alone

pub returns-clause-made : goal.returns-clause-made
returns-clause-made c = passed_made

pub returns-clause-alike : goal.returns-clause-alike
returns-clause-alike c = passed_text

pub returns-clause-same : goal.returns-clause-same
returns-clause-same c = passed_code
