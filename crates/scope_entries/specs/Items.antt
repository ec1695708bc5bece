-- What stands inside a function.
use Rattle.std.specs.Prelude.{ℕ, Bool, false, not, ◌&&◌, cond, nat_eq, is_some, List, [], ◌∷◌, ◌++◌, length, map, Option, Some, None, slice_get}
use Rattle.std.specs.List.{flat_map}
use Rattle.std.specs.Option.{option_and_then}
use Rattle.read_metadata.specs.Maps.{Maps}
use Rattle.read_metadata.specs.Metadata.{block_at}
use Rattle.mir_func.specs.declared.variable.VarId.{VarId}
use Rattle.read_debug_nodes.specs.Maps.{DebugMaps}
use Rattle.scope_ways.specs.declared.scope.LexicalScope.{LexicalScope}
use Rattle.scope_ranges.specs.declared.scope.Scope.{Scope}
use Rattle.scope_variables.specs.declared.variable.ScopeVariable.{ScopeVariable}
use Rattle.scope_variables.specs.Variables.{variables_of_function, variables_of_scope}
use Rattle.scope_entries.specs.declared.step.ScopeStep.{ScopeStep}
use Rattle.scope_entries.specs.declared.step.ScopeStep.TheVariants as step
use Rattle.scope_entries.specs.declared.item.ScopeItem.{ScopeItem}
use Rattle.scope_entries.specs.declared.item.ScopeItem.TheVariants.{Variable, Open, End}
use Rattle.scope_entries.specs.Prefix.{steps_of}

-- whether a scope is a lexical block
abbrev pub is_block : Maps → LexicalScope → Bool
is_block meta s = is_some (option_and_then (block_at meta) s.node)

-- A lexical block without variables isn't told, and what is in it stands in its place.
abbrev pub is_told_by : (block : Bool) → List ScopeVariable → Bool
is_told_by block variables = not (block && nat_eq (length variables) 0)

-- whether a scope is told
abbrev pub is_told : Maps → DebugMaps → (marked : List VarId) → Option Scope → Bool
is_told meta debug marked None = false
is_told meta debug marked (Some s) = is_told_by (is_block meta s.place) (variables_of_scope debug marked s.place)

-- the items of the begin of a scope: its variables stand behind it
abbrev pub begin_items : (block : Bool) → (index : ℕ) → List ScopeVariable → List ScopeItem
begin_items block k variables = cond (is_told_by block variables) (Open k ∷ map Variable variables) []

-- the items of its end
abbrev pub end_items : (block : Bool) → List ScopeVariable → List ScopeItem
end_items block variables = cond (is_told_by block variables) (End ∷ []) []

abbrev pub opened : Maps → DebugMaps → (marked : List VarId) → (index : ℕ) → Option Scope → List ScopeItem
opened meta debug marked k None = []
opened meta debug marked k (Some s) = begin_items (is_block meta s.place) k (variables_of_scope debug marked s.place)

abbrev pub closed : Maps → DebugMaps → (marked : List VarId) → Option Scope → List ScopeItem
closed meta debug marked None = []
closed meta debug marked (Some s) = end_items (is_block meta s.place) (variables_of_scope debug marked s.place)

-- the items of a step
abbrev pub step_items : Maps → DebugMaps → (marked : List VarId) → List Scope → ScopeStep → List ScopeItem
step_items meta debug marked scopes (step.Open k) = opened meta debug marked k (slice_get scopes k)
step_items meta debug marked scopes (step.Close k) = closed meta debug marked (slice_get scopes k)

-- What stands inside a function, in prefix order: in each scope first its variables, and then the scopes in it in their order.
abbrev pub items_of : Maps → DebugMaps → (marked : List VarId) → (subprogram : Option ℕ) → List Scope → List ScopeItem
items_of meta debug marked subprogram scopes =
    map Variable (variables_of_function debug marked subprogram) ++ flat_map (step_items meta debug marked scopes) (steps_of scopes)
