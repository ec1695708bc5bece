use Rattle.compile_theorem.proofs.LaidOut.{compiled_lists_passed}
use Rattle.compile_theorem.proofs.laws.compiled_lists_passed.Goals as goal

pub returns : goal.returns
returns c = compiled_lists_passed
