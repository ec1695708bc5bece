use Rattle.compile_theorem.proofs.Codes.{codes_are_compiled}
use Rattle.compile_theorem.proofs.laws.codes_are_compiled.Goals as goal

pub returns : goal.returns
returns c = codes_are_compiled
