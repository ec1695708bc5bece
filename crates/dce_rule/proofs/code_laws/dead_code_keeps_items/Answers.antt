use Rattle.dce_rule.proofs.Debug.{out_keeps}
use Rattle.dce_rule.proofs.code_laws.dead_code_keeps_items.Goals as goal

pub returns : goal.returns
returns c = λ f subs ends wrong sound exact no_copies losses are. out_keeps f sound subs ends wrong exact no_copies losses are
