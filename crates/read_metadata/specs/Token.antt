-- The classes of tokens on a metadata line.
use Rattle.std.specs.Prelude.{ℕ, Bool, true, false, ◌==◌, slice_range, List}
use Rattle.read_lexer.specs.declared.parts.Class.{Class}
use Rattle.read_lexer.specs.declared.parts.Class.TheVariants.{Word, Node, Kind, Integer, Text, Single}
use Rattle.read_lexer.specs.declared.parts.Token.{Token}

-- whether a class is that of a single byte, which is this one
abbrev pub is_single_class : ℕ → Class → Bool
is_single_class byte (Single b) = b == byte
is_single_class byte _ = false

-- whether a class is that of words
abbrev pub is_word_class : Class → Bool
is_word_class Word = true
is_word_class _ = false

-- whether a class is that of nodes
abbrev pub is_node_class : Class → Bool
is_node_class Node = true
is_node_class _ = false

-- whether a class is that of kinds
abbrev pub is_kind_class : Class → Bool
is_kind_class Kind = true
is_kind_class _ = false

-- whether a class is that of integers
abbrev pub is_integer_class : Class → Bool
is_integer_class Integer = true
is_integer_class _ = false

-- whether a class is that of quoted texts
abbrev pub is_text_class : Class → Bool
is_text_class Text = true
is_text_class _ = false

-- whether a token is this byte alone
abbrev pub is_byte : ℕ → Token → Bool
is_byte byte t = is_single_class byte t.class

-- whether a token is a word
abbrev pub is_word : Token → Bool
is_word t = is_word_class t.class

-- whether a token is a node, `!N`
abbrev pub is_node : Token → Bool
is_node t = is_node_class t.class

-- whether a token is a kind of nodes
abbrev pub is_kind : Token → Bool
is_kind t = is_kind_class t.class

-- whether a token is an integer
abbrev pub is_integer : Token → Bool
is_integer t = is_integer_class t.class

-- whether a token is a quoted text
abbrev pub is_text : Token → Bool
is_text t = is_text_class t.class

-- the bytes of a line that a token spans
abbrev pub text_of : List ℕ → Token → List ℕ
text_of line t = slice_range line t.start t.end
