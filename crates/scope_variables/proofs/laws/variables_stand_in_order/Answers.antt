use Rattle.scope_variables.proofs.Ordered.{stand_in_order}
use Rattle.scope_variables.proofs.laws.variables_stand_in_order.Goals as goal

pub returns : goal.returns
returns c = stand_in_order
