use Rattle.spill_rule.proofs.RuleFollows.{rule_follows}
use Rattle.spill_rule.proofs.laws.rule_follows.Goals as goal

pub returns : goal.returns
returns c = rule_follows
