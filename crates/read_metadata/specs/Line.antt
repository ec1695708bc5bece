-- The node that a line defines: `!N = !KIND(..)` or `!N = distinct !KIND(..)`.
use Rattle.std.specs.Prelude.{false, ℕ, Bool, ◌&&◌, ◌==◌, if◌then◌else◌, codes, drop, List, [], ◌∷◌, Option, Some, None, Result, Ok, Err}
use Rattle.std.specs.List.{prefix_len}
use Rattle.std.specs.Str.{bytes_eq}
use Rattle.read_lexer.specs.declared.fault.LexError.{LexError}
use Rattle.read_lexer.specs.declared.parts.Token.{Token}
use Rattle.read_lexer.specs.Line.{tokens_of}
use Rattle.read_metadata.specs.declared.field.Field.{Field}
use Rattle.read_metadata.specs.declared.node.Node.{Node}
use Rattle.read_metadata.specs.Number.{node_number}
use Rattle.read_metadata.specs.Token.{is_byte, is_word, is_node, is_kind, text_of}
use Rattle.read_metadata.specs.Field.{fields_of}
use Rattle.read_metadata.specs.Kind.{node_of_kind}

-- a space
abbrev pub is_space : ℕ → Bool
is_space b = b == 32

-- a line without the spaces at its front
abbrev pub behind_spaces : List ℕ → List ℕ
behind_spaces text = drop (prefix_len is_space text) text

-- the word `distinct`
abbrev pub is_distinct : List ℕ → Bool
is_distinct word = bytes_eq word (codes "distinct")

-- tokens without a word `distinct` at the front
unfoldable pub behind_distinct : List ℕ → List Token → List Token
behind_distinct line [] = []
behind_distinct line (t ∷ ts) = if is_word t && is_distinct (text_of line t) then ts else t ∷ ts

-- the node of a kind with these fields, if the fields are readable
abbrev pub node_with : List ℕ → List ℕ → Option (List Field) → Option Node
node_with line kind None = None
node_with line kind (Some fields) = node_of_kind line kind fields

-- the node that tokens define: a kind, and fields in round brackets up to the end
unfoldable pub described : List ℕ → List Token → Option Node
described line (kind ∷ open_bracket ∷ ts) = if is_kind kind && is_byte 40 open_bracket then node_with line (text_of line kind) (fields_of ts) else None
described line ts = None

-- a node with its number, if both are readable
abbrev pub numbered : Option ℕ → Option Node → Option (ℕ × Node)
numbered (Some n) (Some node) = Some (n, node)
numbered _ _ = None

-- the node with its number that tokens define
unfoldable pub assigned : List ℕ → List Token → Option (ℕ × Node)
assigned line (number ∷ equals ∷ ts) = if is_node number && is_byte 61 equals then numbered (node_number (text_of line number))
    (described line (behind_distinct line ts)) else None
assigned line ts = None

-- the node with its number that the tokens of a line define; none if the line has a lexical fault
abbrev pub node_of_tokens : List ℕ → Result (List Token) LexError → Option (ℕ × Node)
node_of_tokens line (Ok ts) = assigned line ts
node_of_tokens line (Err e) = None

-- The node with its number that a line defines. The line has no spaces at the front, so it begins with `!`.
unfoldable pub node_of_line : List ℕ → Option (ℕ × Node)
node_of_line [] = None
node_of_line (b ∷ bs) = if b == 33 then node_of_tokens (b ∷ bs) (tokens_of false (b ∷ bs)) else None
