use Rattle.spill_rule.proofs.Chosen.{chosen_may_spill}
use Rattle.spill_rule.proofs.laws.chosen_may_spill.Goals as goal

pub returns : goal.returns
returns c = chosen_may_spill
