use Rattle.kept_theorem.proofs.Backtrace.{suspended_lists_hold}
use Rattle.kept_theorem.proofs.laws.suspended_lists_hold.Goals as goal

pub returns : goal.returns
returns c = suspended_lists_hold
