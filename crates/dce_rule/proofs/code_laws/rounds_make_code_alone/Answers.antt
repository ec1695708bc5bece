use Rattle.dce_rule.proofs.Rounds.{one_thinned_out, same_thinned_out}
use Rattle.dce_rule.proofs.code_laws.rounds_make_code_alone.Goals as goal

pub returns-clause-one : goal.returns-clause-one
returns-clause-one c = one_thinned_out

pub returns-clause-same : goal.returns-clause-same
returns-clause-same c = same_thinned_out
