use Rattle.dce_rule.proofs.Live.{live_closed}
use Rattle.dce_rule.proofs.code_laws.live_is_closed.Goals as goal

pub returns : goal.returns
returns c = λ f ends sound live. live_closed f sound.ends ends live
