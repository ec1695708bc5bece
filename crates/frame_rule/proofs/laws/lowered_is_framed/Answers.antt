use Rattle.frame_rule.proofs.Framed.{is_framed}
use Rattle.frame_rule.proofs.laws.lowered_is_framed.Goals as goal

pub returns : goal.returns
returns c = λ f sound physical small. is_framed f sound small physical
