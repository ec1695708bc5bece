-- Tuples of nodes: `!N = !{E, ..}` or `!N = distinct !{E, ..}`, with each E a node or `null`. (LLVM Language Reference Manual, "Metadata Nodes and Metadata
-- Strings".)
use Rattle.std.specs.Prelude.{false, ℕ, Bool, ◌==◌, if◌then◌else◌, codes, length, take, drop, List, [], ◌∷◌, Option, Some, None, Result, Ok, Err}
use Rattle.std.specs.List.{prefix_len}
use Rattle.std.specs.Str.{bytes_eq}
use Rattle.std.specs.Char.{is_ascii_digit}
use Rattle.read_metadata.specs.read_lexer.declared.fault.LexError.{LexError}
use Rattle.read_metadata.specs.read_lexer.declared.parts.Token.{Token}
use Rattle.read_metadata.specs.read_lexer.Line.{tokens_of}
use Rattle.read_metadata.specs.Number.{spelled}
use Rattle.read_metadata.specs.Token.{is_byte}
use Rattle.read_debug_nodes.specs.Value.{as_node}

-- an element: a node, or none for `null`
abbrev pub element_of : (line : List ℕ) → Token → Option (Option ℕ)
element_of line t = as_node line t

-- whether the tokens are only the closing brace
abbrev pub is_closing : List Token → Bool
is_closing (t ∷ []) = is_byte 125 t
is_closing ts = false

-- an element before others
abbrev pub before_elements : Option (Option ℕ) → Option (List (Option ℕ)) → Option (List (Option ℕ))
before_elements (Some e) (Some es) = Some (e ∷ es)
before_elements _ _ = None

-- elements, one at least, with commas between them, before the closing brace, which must be the last token
abbrev pub some_elements : (line : List ℕ) → List Token → Option (List (Option ℕ))
some_elements line [] = None
some_elements line (t ∷ []) = None
some_elements line (t ∷ c ∷ ts) =
    if is_closing (c ∷ ts) then before_elements (element_of line t) (Some [])
    else (if is_byte 44 c then before_elements (element_of line t) (some_elements line ts) else None)

-- the elements before the closing brace, which must be the last token
abbrev pub elements_of : (line : List ℕ) → List Token → Option (List (Option ℕ))
elements_of line ts = if is_closing ts then Some [] else some_elements line ts

-- what is behind these bytes at the front
abbrev pub behind : (front text : List ℕ) → Option (List ℕ)
behind front text = if bytes_eq (take (length front) text) front then Some (drop (length front) text) else None

abbrev pub first_of : Option (List ℕ) → Option (List ℕ) → Option (List ℕ)
first_of None other = other
first_of (Some text) other = Some text

-- what is behind the brace that opens a tuple, behind the tuple's number
abbrev pub behind_brace : List ℕ → Option (List ℕ)
behind_brace text = first_of (behind (codes " = !{") text) (behind (codes " = distinct !{") text)

abbrev pub elements_in : List ℕ → Result (List Token) LexError → Option (List (Option ℕ))
elements_in inside (Ok ts) = elements_of inside ts
elements_in inside (Err e) = None

-- the elements of a tuple, from what is behind its opening brace
abbrev pub tuple_elements : List ℕ → Option (List (Option ℕ))
tuple_elements inside = elements_in inside (tokens_of false inside)

-- a tuple with its number, if both are readable
abbrev pub numbered : Option ℕ → Option (List (Option ℕ)) → Option (ℕ × List (Option ℕ))
numbered (Some n) (Some es) = Some (n, es)
numbered _ _ = None

abbrev pub tuple_with : (digits : List ℕ) → Option (List ℕ) → Option (ℕ × List (Option ℕ))
tuple_with digits None = None
tuple_with digits (Some inside) = if length digits == 0 then None else numbered (spelled 10 digits) (tuple_elements inside)

-- the tuple with its number that a line defines, from what is behind the line's first `!`
unfoldable pub tuple_of_line : List ℕ → Option (ℕ × List (Option ℕ))
tuple_of_line text = tuple_with (take (prefix_len is_ascii_digit text) text) (behind_brace (drop (prefix_len is_ascii_digit text) text))
