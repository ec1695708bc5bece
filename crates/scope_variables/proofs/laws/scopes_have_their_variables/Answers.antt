use Rattle.scope_variables.proofs.Members.{have_their_variables}
use Rattle.scope_variables.proofs.laws.scopes_have_their_variables.Goals as goal

pub returns : goal.returns
returns c = have_their_variables
