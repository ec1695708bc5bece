use Rattle.std.proofs.Common.{◌≡◌, ℕ, take, filter, nat_cmp}
use Rattle.std.specs.BTreeMap.{get}
use Rattle.scope_variables.specs.Scope.{is_in}
use Rattle.scope_variables.specs.steps.Table.{nodes_or_none}
use Rattle.scope_variables.proofs.table.VariableTable.new.Given as goal

abbrev pub invariant-loop-number : goal.invariant-loop-number
invariant-loop-number l =
    (scope : ℕ) → nodes_or_none (get nat_cmp l.by_scope scope) ≡ filter (is_in l.debug scope) (take l.number-index l.numbers)
