use Rattle.dce_rule.proofs.Stripped.{round_stripped}
use Rattle.dce_rule.proofs.code_laws.round_is_stripped.Goals as goal

pub returns : goal.returns
returns c = λ f ends wrong live. round_stripped f ends live wrong
