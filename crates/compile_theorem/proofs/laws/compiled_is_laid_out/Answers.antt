use Rattle.compile_theorem.proofs.LaidOut.{compiled_is_laid_out}
use Rattle.compile_theorem.proofs.laws.compiled_is_laid_out.Goals as goal

pub returns : goal.returns
returns c = compiled_is_laid_out
