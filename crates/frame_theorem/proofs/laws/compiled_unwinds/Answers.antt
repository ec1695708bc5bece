use Rattle.frame_theorem.proofs.Compiled.{compiled_unwinds}
use Rattle.frame_theorem.proofs.laws.compiled_unwinds.Goals as goal

pub returns : goal.returns
returns c = compiled_unwinds
