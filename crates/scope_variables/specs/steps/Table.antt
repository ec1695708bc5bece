-- The variables of a program by their scopes.
use Rattle.std.specs.Prelude.{◌≡◌, ℕ, Bool, cond, List, [], ◌∷◌, ◌++◌, Option, Some, None}
use Rattle.std.specs.Ordering.{nat_cmp}
use Rattle.std.specs.BTreeMap.{get}
use Rattle.read_debug_nodes.specs.Maps.{DebugMaps, numbers_of}
use Rattle.scope_variables.specs.declared.table.VariableTable.{VariableTable}
use Rattle.scope_variables.specs.Scope.{declared_in, most_files}

abbrev pub nodes_or_none : Option (List ℕ) → List ℕ
nodes_or_none None = []
nodes_or_none (Some nodes) = nodes

-- nodes with one more, if it is to be there
abbrev pub with_node : Bool → List ℕ → ℕ → List ℕ
with_node there nodes n = cond there (nodes ++ n ∷ []) nodes

-- each scope has the variables that are declared in it
pub record AreByScope (debug : DebugMaps) (table : VariableTable) : Type 0 where
  pub most : table.most ≡ most_files debug (numbers_of debug)
  pub found : (scope : ℕ) → nodes_or_none (get nat_cmp table.by_scope scope) ≡ declared_in debug (Some scope)
