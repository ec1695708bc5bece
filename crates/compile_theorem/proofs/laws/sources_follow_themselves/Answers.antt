use Rattle.compile_theorem.proofs.Passed.{sources_follow_themselves}
use Rattle.compile_theorem.proofs.laws.sources_follow_themselves.Goals as goal

pub returns : goal.returns
returns c = sources_follow_themselves
