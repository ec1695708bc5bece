use Rattle.copyprop_rule.specs.Laws.{one_copied, same_copied}
use Rattle.copyprop_rule.proofs.laws.copies_make_code_alone.Goals as goal

pub returns-clause-one : goal.returns-clause-one
returns-clause-one c = one_copied

pub returns-clause-same : goal.returns-clause-same
returns-clause-same c = same_copied
