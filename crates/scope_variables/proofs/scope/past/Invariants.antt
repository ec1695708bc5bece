use Rattle.std.proofs.Common.{◌≡◌}
use Rattle.scope_variables.specs.Scope.{past}
use Rattle.scope_variables.proofs.scope.past.Given as goal

abbrev pub invariant-nodes : goal.invariant-nodes
invariant-nodes l = past l.debug l.left l.at ≡ past l.debug l.initial.left l.initial.at

abbrev pub decreases-nodes : goal.decreases-nodes
decreases-nodes l = l.left
