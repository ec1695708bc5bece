use Rattle.dce_rule.proofs.Chain.{rounds_end}
use Rattle.dce_rule.proofs.code_laws.rounds_end.Goals as goal

pub returns : goal.returns
returns c = λ f g so_far last. rounds_end f g so_far last
