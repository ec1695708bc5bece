-- Laws of the variables of scopes.
use Rattle.std.specs.Prelude.{◌≡◌, ◌↔◌, ℕ, List, [], Contains, map, Option, Some, None}
use Rattle.std.specs.List.Sorted.{IsStrictlySortedBy}
use Rattle.mir_func.specs.declared.variable.VarId.{VarId}
use Rattle.read_debug_nodes.specs.Maps.{DebugMaps}
use Rattle.scope_ways.specs.declared.scope.LexicalScope.{LexicalScope}
use Rattle.scope_variables.specs.Scope.{scope_of}
use Rattle.scope_variables.specs.Order.{by_rank, in_order, key}
use Rattle.scope_variables.specs.Variables.{variables_of_scope}

-- a variable is declared in the scope with a node, if there is one
abbrev pub IsDeclaredIn : DebugMaps → (node : ℕ) → (scope : Option ℕ) → Type 0
IsDeclaredIn debug node None = ⊥
IsDeclaredIn debug node (Some scope) = scope_of debug node ≡ Some scope

-- A scope has exactly the variables that are declared in it, whether they are marked or not.
abbrev pub ScopesHaveTheirVariables : Type 0
ScopesHaveTheirVariables = (debug : DebugMaps) (marked : List VarId) (s : LexicalScope) (node : ℕ) →
    Contains (map (λ v. v.node) (variables_of_scope debug marked s)) node ↔ IsDeclaredIn debug node s.node

-- Variables stand in order, each once: by their rank, and then by their node.
abbrev pub VariablesStandInOrder : Type 0
VariablesStandInOrder = (debug : DebugMaps) (nodes : List ℕ) → IsStrictlySortedBy by_rank (in_order [] (map (key debug) nodes))
