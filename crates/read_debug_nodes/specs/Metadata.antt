-- The debug metadata in lines, and look-ups in it.
use Rattle.std.specs.Prelude.{ℕ, List, [], ◌∷◌, Option, Some, None}
use Rattle.std.specs.FinMap as finite
use Rattle.read_metadata.specs.read_lexer.declared.line.Line.{Line}
use Rattle.read_metadata.specs.Line.{behind_spaces}
use Rattle.read_debug_nodes.specs.declared.node.DebugNode.{DebugNode}
use Rattle.read_debug_nodes.specs.declared.node.DebugNode.TheVariants as nodes
use Rattle.read_debug_nodes.specs.Line.{node_of_line}
use Rattle.read_debug_nodes.specs.Maps.{DebugMaps, no_metadata, with_node}

-- the language behind one more node: the last unit with one that is known counts
abbrev pub language_behind : ℕ → DebugNode → ℕ
language_behind code (nodes.Unit (Some other)) = other
language_behind code _ = code

-- metadata with a node, if there is one and its number isn't taken
abbrev pub with_given : DebugMaps → Option (ℕ × DebugNode) → DebugMaps
with_given m None = m
with_given m (Some given) = with_node m given.0 given.1 (language_behind m.language given.1)

-- metadata with what one more line defines
abbrev pub with_line : DebugMaps → List ℕ → DebugMaps
with_line m text = with_given m (node_of_line (behind_spaces text))

-- metadata with what lines define, in their order
unfoldable pub with_lines : DebugMaps → List Line → DebugMaps
with_lines m [] = m
with_lines m (line ∷ lines) = with_lines (with_line m line.text) lines

-- the debug metadata in lines. Of two lines that define one node the first counts
abbrev pub debug_metadata : List Line → DebugMaps
debug_metadata lines = with_lines no_metadata lines

-- the node with this number
abbrev pub node_at : DebugMaps → ℕ → Option DebugNode
node_at m n = finite.get m.nodes n
