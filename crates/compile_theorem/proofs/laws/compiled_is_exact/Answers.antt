use Rattle.compile_theorem.proofs.IsExact.{compiled_is_exact}
use Rattle.compile_theorem.proofs.laws.compiled_is_exact.Goals as goal

pub returns : goal.returns
returns c = compiled_is_exact
