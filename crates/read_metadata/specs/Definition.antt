-- The subprogram of a function: on a line that begins with `define`, the first symbol outside quotes names the function, and the first `!dbg !N` outside
-- quotes after it is its subprogram. The line need not consist of tokens. (LLVM Language Reference Manual, "Functions".)
use Rattle.std.specs.Prelude.{ℕ, ◌+◌, Bool, false, not, ◌&&◌, ◌==◌, nat_eq, is_some, if◌then◌else◌, position, slice_range, codes, take, drop, List, [], ◌∷◌}
use Rattle.std.specs.Prelude.{Option, Some, None}
use Rattle.std.specs.List.{prefix_len, starts_with}
use Rattle.std.specs.Char.{is_ascii_digit}
use Rattle.read_lexer.specs.Bytes.{is_blank, is_symbol_byte}
use Rattle.read_metadata.specs.declared.definition.SearchedName.{SearchedName}
use Rattle.read_metadata.specs.declared.definition.SearchedName.TheVariants.{Symbol, Attachment}
use Rattle.read_metadata.specs.Number.{spelled}
use Rattle.read_metadata.specs.Text.{unescaped, inside_quotes}

-- the length of a symbol with an unquoted name of this length
abbrev pub bare_len : ℕ → Option ℕ
bare_len run = if run == 0 then None else Some (run + 1)

-- the length of a symbol with a quoted name, where the closing quote is at this index after the opening one
abbrev pub quoted_len : Option ℕ → Option ℕ
quoted_len None = None
quoted_len (Some place) = Some (place + 3)

-- the length of a symbol, from the bytes after its `@`
abbrev pub named_len : List ℕ → Option ℕ
named_len [] = None
named_len (b ∷ bs) = if b == 34 then quoted_len (position (λ c. c == 34) bs) else bare_len (prefix_len is_symbol_byte (b ∷ bs))

-- the length of the symbol at the front: `@`, and an unquoted name or one in double quotes
unfoldable pub symbol_len : List ℕ → Option ℕ
symbol_len [] = None
symbol_len (b ∷ bs) = if b == 64 then named_len bs else None

-- whether the text begins with a symbol
abbrev pub is_symbol : List ℕ → Bool
is_symbol text = is_some (symbol_len text)

-- whether a double quote is open after a byte
abbrev pub quoted_behind : Bool → ℕ → Bool
quoted_behind quoted b = if b == 34 then not quoted else quoted

-- whether the text passes a test, and no double quote is open there
abbrev pub is_outside : (List ℕ → Bool) → Bool → List ℕ → Bool
is_outside test quoted text = not quoted && test text

-- The rest of a text from the first index outside double quotes at which it passes a test; empty if there is none.
unfoldable pub from_first : (List ℕ → Bool) → Bool → List ℕ → List ℕ
from_first test quoted [] = []
from_first test quoted (b ∷ bs) = if is_outside test quoted (b ∷ bs) then b ∷ bs else from_first test (quoted_behind quoted b) bs

-- a line from its first symbol outside quotes
abbrev pub from_symbol : List ℕ → List ℕ
from_symbol line = from_first is_symbol false line

-- the digits of a node `!N` at the front, at least one
abbrev pub node_digits : List ℕ → Option (List ℕ)
node_digits [] = None
node_digits (b ∷ bs) = if b == 33 && not (prefix_len is_ascii_digit bs == 0) then Some (take (prefix_len is_ascii_digit bs) bs) else None

-- the digits of a node `!N` after one or more spaces or tabs
abbrev pub node_behind : List ℕ → Option (List ℕ)
node_behind text = if prefix_len is_blank text == 0 then None else node_digits (drop (prefix_len is_blank text) text)

-- the digits of the subprogram in `!dbg !N` at the front
abbrev pub attachment : List ℕ → Option (List ℕ)
attachment (a ∷ b ∷ c ∷ d ∷ bs) = if a == 33 && (b == 100 && (c == 98 && d == 103)) then node_behind bs else None
attachment bs = None

-- whether the text begins with `!dbg !N`
abbrev pub is_attachment : List ℕ → Bool
is_attachment text = is_some (attachment text)

-- a line from its first `!dbg !N` outside quotes
abbrev pub from_attachment : List ℕ → List ℕ
from_attachment line = from_first is_attachment false line

-- whether the text begins with what is searched for
abbrev pub is_sought : SearchedName → List ℕ → Bool
is_sought Symbol = is_symbol
is_sought Attachment = is_attachment

-- the name of a symbol, from the text after its `@`, with escapes replaced by their bytes
abbrev pub name_of : List ℕ → List ℕ
name_of [] = []
name_of (b ∷ bs) = if b == 34 then unescaped (inside_quotes (b ∷ bs)) else b ∷ bs

-- a number with a name, if there is a number
abbrev pub with_name : List ℕ → Option ℕ → Option (List ℕ × ℕ)
with_name name None = None
with_name name (Some n) = Some (name, n)

-- the value of these digits with a name, if there are digits and their value is within the limit
abbrev pub with_digits : List ℕ → Option (List ℕ) → Option (List ℕ × ℕ)
with_digits name None = None
with_digits name (Some digits) = with_name name (spelled 10 digits)

-- the name of a function and its subprogram, from the line from the function's symbol on, if that has a length
abbrev pub definition_from : List ℕ → Option ℕ → Option (List ℕ × ℕ)
definition_from symbol None = None
definition_from symbol (Some len) = with_digits (name_of (slice_range symbol 1 len)) (attachment (from_attachment (drop len symbol)))

-- the name of the function that a line defines, and its subprogram
unfoldable pub definition_of_line : List ℕ → Option (List ℕ × ℕ)
definition_of_line line = if starts_with nat_eq line (codes "define") then definition_from (from_symbol line) (symbol_len (from_symbol line)) else None
