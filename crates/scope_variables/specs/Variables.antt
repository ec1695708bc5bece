-- The variables of the scopes of a function.
use Rattle.std.specs.Prelude.{ℕ, ◌+◌, Bool, not, ◌&&◌, cond, nat_eq, is_none, List, [], ◌∷◌, ◌++◌, map, filter, Option, Some, None}
use Rattle.std.specs.Option.{option_eq}
use Rattle.mir_func.specs.declared.variable.VarId.{VarId}
use Rattle.read_debug_nodes.specs.Maps.{DebugMaps}
use Rattle.scope_ways.specs.declared.scope.LexicalScope.{LexicalScope}
use Rattle.scope_variables.specs.declared.variable.ScopeVariable.{ScopeVariable}
use Rattle.scope_variables.specs.Nodes.{is_block}
use Rattle.scope_variables.specs.Scope.{scope_of, declared_in}
use Rattle.scope_variables.specs.Order.{in_order, key}

-- the list of a variable, by the variables that have one, the first of which has this list
abbrev pub list_from : (list : ℕ) → List VarId → (node : ℕ) → (inlined_at : Option ℕ) → Option ℕ
list_from k [] node at = None
list_from k (v ∷ vs) node at = cond (nat_eq v.node node && option_eq nat_eq v.inlined_at at) (Some k) (list_from (k + 1) vs node at)

-- a variable with its list
abbrev pub listed : (marked : List VarId) → (inlined_at : Option ℕ) → (key : ℕ × ℕ) → ScopeVariable
listed marked at v = record { node = v.1; list = list_from 0 marked v.1 at }

-- variables with their lists: parameters by their number, and behind them the others by their node
abbrev pub listed_variables : DebugMaps → (marked : List VarId) → (inlined_at : Option ℕ) → (nodes : List ℕ) → List ScopeVariable
listed_variables debug marked at nodes = map (listed marked at) (in_order [] (map (key debug) nodes))

-- The variables of a scope: all that its source declares in it, whether they are marked or not.
abbrev pub variables_of_scope : DebugMaps → (marked : List VarId) → LexicalScope → List ScopeVariable
variables_of_scope debug marked s = listed_variables debug marked s.inlined_at (declared_in debug s.node)

-- whether a marked variable is the function's own: it isn't inlined, and is declared in no lexical block
abbrev pub is_own : DebugMaps → VarId → Bool
is_own debug v = is_none v.inlined_at && not (is_block debug (scope_of debug v.node))

-- The variables of a function itself: all that its subprogram declares, and each marked one of its own.
abbrev pub variables_of_function : DebugMaps → (marked : List VarId) → (subprogram : Option ℕ) → List ScopeVariable
variables_of_function debug marked subprogram =
    listed_variables debug marked None (declared_in debug subprogram ++ map (λ v. v.node) (filter (is_own debug) marked))
