use Rattle.scope_ranges.proofs.Members.{each_is_there}
use Rattle.scope_ranges.proofs.laws.each_scope_is_there.Goals as goal

pub returns : goal.returns
returns c = each_is_there
