-- What nodes of the debug metadata are.
use Rattle.std.specs.Prelude.{ℕ, Bool, true, false, Option, Some, None, is_some}
use Rattle.std.specs.Option.{option_and_then}
use Rattle.read_debug_nodes.specs.declared.node.DebugNode.{DebugNode}
use Rattle.read_debug_nodes.specs.declared.node.DebugNode.TheVariants as nodes
use Rattle.read_debug_nodes.specs.declared.node.DebugVariable.{DebugVariable}
use Rattle.read_debug_nodes.specs.Maps.{DebugMaps}
use Rattle.read_debug_nodes.specs.Metadata.{node_at}

abbrev pub as_variable : DebugNode → Option DebugVariable
as_variable (nodes.Variable v) = Some v
as_variable _ = None

abbrev pub as_file_block : DebugNode → Option (Option ℕ)
as_file_block (nodes.FileBlock scope) = Some scope
as_file_block _ = None

abbrev pub is_block_node : Option DebugNode → Bool
is_block_node (Some (nodes.Block scope)) = true
is_block_node _ = false

-- the variable that a node is
abbrev pub variable_at : DebugMaps → ℕ → Option DebugVariable
variable_at debug node = option_and_then as_variable (node_at debug node)

abbrev pub arg_of : Option DebugVariable → ℕ
arg_of None = 0
arg_of (Some v) = v.arg

-- the parameter that a variable is, counted from 1, and 0 for one that is none
abbrev pub arg_at : DebugMaps → ℕ → ℕ
arg_at debug node = arg_of (variable_at debug node)

-- the scope of a node that is a DILexicalBlockFile
abbrev pub file_block_at : DebugMaps → ℕ → Option (Option ℕ)
file_block_at debug node = option_and_then as_file_block (node_at debug node)

-- whether a node is a DILexicalBlockFile
abbrev pub is_file_block : DebugMaps → ℕ → Bool
is_file_block debug node = is_some (file_block_at debug node)

-- whether a node is a lexical block
abbrev pub is_block : DebugMaps → Option ℕ → Bool
is_block debug None = false
is_block debug (Some node) = is_block_node (node_at debug node)
