use Rattle.dce_rule.proofs.Fewer.{sizes_taken}
use Rattle.dce_rule.proofs.code_laws.dead_code_keeps_sizes.Goals as goal

pub returns : goal.returns
returns c = λ f subs ends wrong. sizes_taken wrong ends f subs
