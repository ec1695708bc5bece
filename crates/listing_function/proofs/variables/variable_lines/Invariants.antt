use Rattle.std.proofs.Common.{◌≡◌, ◌+◌, ◌++◌, drop}
use Rattle.listing_function.specs.Variables.{variables_listed}
use Rattle.listing_function.proofs.variables.variable_lines.Given as goal

abbrev pub invariant-loop-variable : goal.invariant-loop-variable
invariant-loop-variable l = record {
  list : l.list ≡ l.first + l.variable-index;
  lines : l.lines ++ variables_listed l.meta l.list (drop l.variable-index l.variables) ≡ variables_listed l.meta l.first l.variables;
}
