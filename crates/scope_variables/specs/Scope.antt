-- The scopes that variables are declared in (LLVM Language Reference Manual, "DILocalVariable", "DILexicalBlockFile").
use Rattle.std.specs.Prelude.{ℕ, zero, suc, ◌+◌, Bool, List, [], count_by, filter, nat_eq, Option, Some, None}
use Rattle.std.specs.Option.{option_and_then, option_eq}
use Rattle.read_debug_nodes.specs.declared.node.DebugVariable.{DebugVariable}
use Rattle.read_debug_nodes.specs.Maps.{DebugMaps, numbers_of}
use Rattle.scope_variables.specs.Nodes.{file_block_at, is_file_block, variable_at}

-- a node, or what is found from its scope if it is a DILexicalBlockFile
abbrev pub past_one : (ℕ → Option ℕ) → (node : ℕ) → Option (Option ℕ) → Option ℕ
past_one find node None = Some node
past_one find node (Some scope) = option_and_then find scope

-- the scope that a node stands for, past fewer than so many DILexicalBlockFile nodes
unfoldable pub past : DebugMaps → (most : ℕ) → (node : ℕ) → Option ℕ
past debug zero node = None
past debug (suc most) node = past_one (λ n. past debug most n) node (file_block_at debug node)

-- the scope that a variable is declared in, past fewer than so many DILexicalBlockFile nodes
abbrev pub scope_within : DebugMaps → (most : ℕ) → (node : ℕ) → Option ℕ
scope_within debug most node = option_and_then (past debug most) (option_and_then (λ (v : DebugVariable). v.scope) (variable_at debug node))

-- a number that the DILexicalBlockFile among some nodes are fewer than
unfoldable pub most_files : DebugMaps → (nodes : List ℕ) → ℕ
most_files debug nodes = count_by (is_file_block debug) nodes + 1

-- the scope that a variable is declared in: past all DILexicalBlockFile nodes, and none where they lead round
abbrev pub scope_of : DebugMaps → (node : ℕ) → Option ℕ
scope_of debug node = scope_within debug (most_files debug (numbers_of debug)) node

-- whether a variable is declared in a scope
abbrev pub is_in : DebugMaps → (scope node : ℕ) → Bool
is_in debug scope node = option_eq nat_eq (scope_of debug node) (Some scope)

-- the variables that are declared in a scope, ascending
abbrev pub declared_in : DebugMaps → (scope : Option ℕ) → List ℕ
declared_in debug None = []
declared_in debug (Some scope) = filter (is_in debug scope) (numbers_of debug)
