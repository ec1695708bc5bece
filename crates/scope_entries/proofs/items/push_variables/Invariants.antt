use Rattle.std.proofs.Common.{◌≡◌, ◌++◌, drop, map}
use Rattle.scope_entries.specs.declared.item.ScopeItem.TheVariants.{Variable}
use Rattle.scope_entries.proofs.items.push_variables.Given as goal

abbrev pub invariant-loop-variable : goal.invariant-loop-variable
invariant-loop-variable l = l.items ++ map Variable (drop l.variable-index l.variables) ≡ l.initial.items ++ map Variable l.variables
