-- The metadata in lines, and look-ups in it.
use Rattle.std.specs.Prelude.{ℕ, List, Option, Some, None}
use Rattle.std.specs.List.{filter_map}
use Rattle.std.specs.Option.{option_and_then}
use Rattle.std.specs.FinMap as finite
use Rattle.read_lexer.specs.declared.line.Line.{Line}
use Rattle.read_metadata.specs.declared.node.Node.{Node}
use Rattle.read_metadata.specs.declared.node.Node.TheVariants as nodes
use Rattle.read_metadata.specs.declared.node.VariableNode.{VariableNode}
use Rattle.read_metadata.specs.declared.node.LocationNode.{LocationNode}
use Rattle.read_metadata.specs.declared.node.FileNode.{FileNode}
use Rattle.read_metadata.specs.declared.node.BaseTypeNode.{BaseTypeNode}
use Rattle.read_metadata.specs.declared.node.SubprogramNode.{SubprogramNode}
use Rattle.read_metadata.specs.declared.node.BlockNode.{BlockNode}
use Rattle.read_metadata.specs.Line.{behind_spaces, node_of_line}
use Rattle.read_metadata.specs.Definition.{definition_of_line}
use Rattle.read_metadata.specs.Maps.{Maps, with_node, with_subprogram}

-- the nodes with their numbers that readable lines define, in the order of the lines
abbrev pub nodes_of : List Line → List (ℕ × Node)
nodes_of lines = filter_map (λ line. node_of_line (behind_spaces line.text)) lines

-- the functions that lines define, with their subprograms, in the order of the lines
abbrev pub subprograms_of : List Line → List (List ℕ × ℕ)
subprograms_of lines = filter_map (λ line. definition_of_line (behind_spaces line.text)) lines

-- The metadata in lines. Of two nodes with one number, and of two functions with one name, the first counts.
unfoldable pub metadata_of : List Line → Maps
metadata_of lines = record { nodes = finite.from_entries (nodes_of lines); subprograms = finite.from_entries (subprograms_of lines) }

-- metadata with a node, if there is one and its number isn't taken
abbrev pub with_given : Maps → Option (ℕ × Node) → Maps
with_given m None = m
with_given m (Some given) = with_node m given.0 given.1

-- metadata with the subprogram of a function, if there is one and the function's name isn't taken
abbrev pub with_defined : Maps → Option (List ℕ × ℕ) → Maps
with_defined m None = m
with_defined m (Some defined) = with_subprogram m defined.0 defined.1

-- metadata with what one more line defines
abbrev pub with_line : Maps → List ℕ → Maps
with_line m text = with_defined (with_given m (node_of_line (behind_spaces text))) (definition_of_line (behind_spaces text))

-- the node with this number
abbrev pub node_at : Maps → ℕ → Option Node
node_at m n = finite.get m.nodes n

-- the variable that a node is, if it is one
abbrev pub as_variable : Node → Option VariableNode
as_variable (nodes.Variable v) = Some v
as_variable _ = None

-- the source location that a node is, if it is one
abbrev pub as_location : Node → Option LocationNode
as_location (nodes.Location l) = Some l
as_location _ = None

-- the file that a node is, if it is one
abbrev pub as_file : Node → Option FileNode
as_file (nodes.File f) = Some f
as_file _ = None

-- the base type that a node is, if it is one
abbrev pub as_base_type : Node → Option BaseTypeNode
as_base_type (nodes.BaseType t) = Some t
as_base_type _ = None

-- the subprogram that a node is, if it is one
abbrev pub as_subprogram : Node → Option SubprogramNode
as_subprogram (nodes.Subprogram s) = Some s
as_subprogram _ = None

-- the lexical block that a node is, if it is one
abbrev pub as_block : Node → Option BlockNode
as_block (nodes.Block b) = Some b
as_block _ = None

-- the number of the file of a scope, if the node is a subprogram or a lexical block and has one
abbrev pub as_scope : Node → Option ℕ
as_scope (nodes.Subprogram s) = s.file
as_scope (nodes.Block b) = b.file
as_scope _ = None

-- the variable with this number
abbrev pub variable_at : Maps → ℕ → Option VariableNode
variable_at m n = option_and_then as_variable (node_at m n)

-- the source location with this number
abbrev pub location_at : Maps → ℕ → Option LocationNode
location_at m n = option_and_then as_location (node_at m n)

-- the file with this number
abbrev pub file_at : Maps → ℕ → Option FileNode
file_at m n = option_and_then as_file (node_at m n)

-- the subprogram that is the node with this number
abbrev pub subprogram_node_at : Maps → ℕ → Option SubprogramNode
subprogram_node_at m n = option_and_then as_subprogram (node_at m n)

-- the lexical block with this number
abbrev pub block_at : Maps → ℕ → Option BlockNode
block_at m n = option_and_then as_block (node_at m n)

-- the number of the file of the scope with this number
abbrev pub scope_file_at : Maps → ℕ → Option ℕ
scope_file_at m n = option_and_then as_scope (node_at m n)

-- the file of the scope with this number
abbrev pub file_of_scope_at : Maps → ℕ → Option FileNode
file_of_scope_at m n = option_and_then (file_at m) (scope_file_at m n)

-- the base type with this number
abbrev pub base_type_at : Maps → ℕ → Option BaseTypeNode
base_type_at m n = option_and_then as_base_type (node_at m n)

-- the subprogram of the function with this name
abbrev pub subprogram_at : Maps → List ℕ → Option ℕ
subprogram_at m name = finite.get m.subprograms name
