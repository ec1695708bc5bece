use Rattle.theorem_invariance.proofs.Compiled.{is_laid, same_text}
use Rattle.theorem_invariance.proofs.code_laws.compiled_alone.Goals as goal

pub returns-clause-laid : goal.returns-clause-laid
returns-clause-laid c = is_laid

pub returns-clause-text : goal.returns-clause-text
returns-clause-text c = same_text
