-- Variables with their lists, by the tables.
use Rattle.std.specs.Prelude.{ℕ, Bool, not, ◌&&◌, is_none}
use Rattle.indexmap.specs.IndexMap.{get}
use Rattle.mir_func.specs.declared.variable.VarId.{VarId}
use Rattle.read_debug_nodes.specs.Maps.{DebugMaps}
use Rattle.scope_ways.specs.declared.scope.LexicalScope.{LexicalScope}
use Rattle.scope_variables.specs.declared.marked.MarkedVariables.{MarkedVariables}
use Rattle.scope_variables.specs.declared.variable.ScopeVariable.{ScopeVariable}
use Rattle.scope_variables.specs.Nodes.{is_block}
use Rattle.scope_variables.specs.Scope.{scope_within}
use Rattle.scope_variables.specs.steps.Marked.{is_pair, pair}

-- a variable of a scope with its list, by its rank and its node
abbrev pub placed : MarkedVariables → LexicalScope → ℕ × ℕ → ScopeVariable
placed m s v = record { node = v.1; list = get is_pair m.lists (pair v.1 s.inlined_at) }

-- whether a marked variable is the function's own, with fewer than so many DILexicalBlockFile nodes
abbrev pub is_own_within : DebugMaps → (most : ℕ) → VarId → Bool
is_own_within debug most v = is_none v.inlined_at && not (is_block debug (scope_within debug most v.node))
