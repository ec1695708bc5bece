use Rattle.scope_entries.proofs.Standing.{all_stand}
use Rattle.scope_entries.proofs.laws.scopes_stand_in_scopes.Goals as goal

pub returns : goal.returns
returns c = all_stand
