-- The node that a line defines: a tuple, or `!N = !KIND(..)` or `!N = distinct !KIND(..)`.
use Rattle.std.specs.Prelude.{false, ℕ, ◌&&◌, ◌==◌, if◌then◌else◌, List, [], ◌∷◌, Option, Some, None, Result, Ok, Err}
use Rattle.read_metadata.specs.read_lexer.declared.fault.LexError.{LexError}
use Rattle.read_metadata.specs.read_lexer.declared.parts.Token.{Token}
use Rattle.read_metadata.specs.read_lexer.Line.{tokens_of}
use Rattle.read_metadata.specs.Number.{node_number}
use Rattle.read_metadata.specs.Token.{is_byte, is_node, is_kind, text_of}
use Rattle.read_metadata.specs.Line.{behind_distinct}
use Rattle.read_debug_nodes.specs.declared.field.NodeField.{NodeField}
use Rattle.read_debug_nodes.specs.declared.node.DebugNode.{DebugNode}
use Rattle.read_debug_nodes.specs.declared.node.DebugNode.TheVariants as nodes
use Rattle.read_debug_nodes.specs.Field.{unrepeated}
use Rattle.read_debug_nodes.specs.Kind.{node_of_kind}
use Rattle.read_debug_nodes.specs.Tuple.{tuple_of_line}

-- the node of a kind with these fields, if the fields are readable
abbrev pub node_with : (line kind : List ℕ) → Option (List NodeField) → Option DebugNode
node_with line kind None = None
node_with line kind (Some fields) = node_of_kind line kind fields

-- the node that tokens define: a kind, and fields in round brackets up to the end
unfoldable pub described : List ℕ → List Token → Option DebugNode
described line (kind ∷ open_bracket ∷ ts) =
    if is_kind kind && is_byte 40 open_bracket then node_with line (text_of line kind) (unrepeated line ts) else None
described line ts = None

-- a node with its number, if both are readable
abbrev pub numbered : Option ℕ → Option DebugNode → Option (ℕ × DebugNode)
numbered (Some n) (Some node) = Some (n, node)
numbered _ _ = None

-- the node with its number that tokens define
unfoldable pub assigned : List ℕ → List Token → Option (ℕ × DebugNode)
assigned line (number ∷ equals ∷ ts) = if is_node number && is_byte 61 equals then numbered (node_number (text_of line number))
    (described line (behind_distinct line ts)) else None
assigned line ts = None

abbrev pub assigned_by : List ℕ → Result (List Token) LexError → Option (ℕ × DebugNode)
assigned_by line (Ok ts) = assigned line ts
assigned_by line (Err e) = None

-- the node with its number that the tokens of a line define; none if the line has a lexical fault
abbrev pub node_of_tokens : List ℕ → Option (ℕ × DebugNode)
node_of_tokens line = assigned_by line (tokens_of false line)

-- the tuple that a line defines, or else another node
abbrev pub tuple_or : Option (ℕ × List (Option ℕ)) → Option (ℕ × DebugNode) → Option (ℕ × DebugNode)
tuple_or None other = other
tuple_or (Some tuple) other = Some (tuple.0, nodes.Tuple tuple.1)

-- the node with its number that a line defines. The line has no spaces at the front, so it begins with `!`
unfoldable pub node_of_line : List ℕ → Option (ℕ × DebugNode)
node_of_line [] = None
node_of_line (b ∷ bs) = if b == 33 then tuple_or (tuple_of_line bs) (node_of_tokens (b ∷ bs)) else None
