-- The fields of a metadata node, `key: value` separated by commas, in round brackets. (LLVM Language Reference Manual, "Specialized Metadata Nodes".)
use Rattle.std.specs.Prelude.{◌≡◌, ℕ, ◌+◌, ◌-◌, Bool, false, ◌&&◌, ◌||◌, ◌==◌, if◌then◌else◌, List, [], ◌∷◌, map, filter, Option, Some, None}
use Rattle.std.specs.Str.{bytes_eq}
use Rattle.std.specs.Borrow.{Bor}
use Rattle.read_lexer.specs.declared.parts.Token.{Token}
use Rattle.read_metadata.specs.declared.field.Field.{Field}
use Rattle.read_metadata.specs.Number.{integer_of, node_number}
use Rattle.read_metadata.specs.Text.{inside_quotes}
use Rattle.read_metadata.specs.Token.{is_byte, is_word, is_node, is_integer, is_text, text_of}

-- an opening bracket of any kind
abbrev pub opens : Token → Bool
opens t = is_byte 40 t || (is_byte 91 t || is_byte 123 t)

-- a closing bracket of any kind
abbrev pub closes : Token → Bool
closes t = is_byte 41 t || (is_byte 93 t || is_byte 125 t)

-- whether the tokens are only the closing bracket of the node
abbrev pub is_end : List Token → Bool
is_end (t ∷ []) = is_byte 41 t
is_end ts = false

-- the fields, if only the closing bracket of the node is left
abbrev pub ended : List Field → List Token → Option (List Field)
ended fields ts = if is_end ts then Some fields else None

-- whether a token ends a piece: a comma or a closing bracket outside inner brackets
abbrev pub ends_piece : ℕ → Token → Bool
ends_piece depth t = depth == 0 && (is_byte 44 t || closes t)

-- pieces with one more token at the front of the first piece
abbrev pub in_piece : Token → Option (List (List Token)) → Option (List (List Token))
in_piece t None = None
in_piece t (Some []) = Some []
in_piece t (Some (p ∷ ps)) = Some ((t ∷ p) ∷ ps)

-- pieces with an empty one before them
abbrev pub new_piece : Option (List (List Token)) → Option (List (List Token))
new_piece None = None
new_piece (Some ps) = Some ([] ∷ ps)

-- the depth of inner brackets after a token
abbrev pub depth_behind : ℕ → Token → ℕ
depth_behind depth t = if opens t then depth + 1 else (if closes t then depth - 1 else depth)

-- The tokens before the closing bracket of the node, cut at the commas outside inner brackets. `depth` is the number of inner brackets that are open at the
-- front. There must be a closing bracket, and it must be the last token.
unfoldable pub pieces : ℕ → List Token → Option (List (List Token))
pieces depth [] = None
pieces depth (t ∷ ts) =
    if ends_piece depth t
    then (if is_byte 44 t then new_piece (pieces 0 ts) else (if is_end (t ∷ ts) then Some ([] ∷ []) else None))
    else in_piece t (pieces (depth_behind depth t) ts)

-- whether two tokens are a word and a colon
abbrev pub is_key : Token → Token → Bool
is_key key colon = is_word key && is_byte 58 colon

-- The field that a piece is: a key, and its value, of one token or several. The value of several tokens isn't kept.
abbrev pub field_of : List Token → Option Field
field_of (key ∷ colon ∷ value ∷ []) = if is_key key colon then Some (record { key = key; value = Some value }) else None
field_of (key ∷ colon ∷ value ∷ more ∷ ts) = if is_key key colon then Some (record { key = key; value = None }) else None
field_of ts = None

-- a field before others
abbrev pub before_fields : Option Field → Option (List Field) → Option (List Field)
before_fields (Some f) (Some fs) = Some (f ∷ fs)
before_fields _ _ = None

-- the fields that pieces are, if each is a field
abbrev pub each_field : List (List Token) → Option (List Field)
each_field [] = Some []
each_field (p ∷ ps) = before_fields (field_of p) (each_field ps)

-- the fields of pieces, if there are pieces and each is a field
abbrev pub all_fields : Option (List (List Token)) → Option (List Field)
all_fields None = None
all_fields (Some ps) = each_field ps

-- the fields after a node's opening bracket, up to the closing one, which must end the line
abbrev pub fields_of : List Token → Option (List Field)
fields_of ts = if is_end ts then Some [] else all_fields (pieces 0 ts)

-- the values of all fields with this key
abbrev pub values_at : List ℕ → List ℕ → List Field → List (Option Token)
values_at line key fields = map (λ f. f.value) (filter (λ f. bytes_eq (text_of line f.key) key) fields)

-- The value of a key from all values that it has: none if it has none, and the token if it has one, of a single token. Otherwise the line is unreadable.
abbrev pub at_most_one : List (Option Token) → Option (Option Token)
at_most_one [] = Some None
at_most_one (Some t ∷ []) = Some (Some t)
at_most_one ts = None

-- the value of a key after one more of its fields; unreadable if it has a value already, or the new one has several tokens
abbrev pub one_more : Option Token → Option Token → Option (Option Token)
one_more None (Some t) = Some (Some t)
one_more _ _ = None

-- the value of the field with this key, if there is one; unreadable if the key repeats or the value has several tokens
unfoldable pub only_value : List ℕ → List ℕ → List Field → Option (Option Token)
only_value line key fields = at_most_one (values_at line key fields)

-- what a field's token is read as, and `missing` if there is no such field
abbrev pub read_as : {A : Type 0} → A → (Token → Option A) → Option (Option Token) → Option A
read_as missing read None = None
read_as missing read (Some None) = Some missing
read_as missing read (Some (Some t)) = read t

-- the value of a field that is present, if its number is readable
abbrev pub there : Option ℕ → Option (Option ℕ)
there None = None
there (Some n) = Some (Some n)

-- the value of an integer token
abbrev pub as_number : List ℕ → Token → Option (Option ℕ)
as_number line t = if is_integer t then there (integer_of (text_of line t)) else None

-- the number of a node token
abbrev pub as_node : List ℕ → Token → Option (Option ℕ)
as_node line t = if is_node t then there (node_number (text_of line t)) else None

-- the bytes inside the quotes of a text token
abbrev pub as_text : List ℕ → Token → Option (List ℕ)
as_text line t = if is_text t then Some (inside_quotes (text_of line t)) else None

-- the bytes of a word token
abbrev pub as_word : List ℕ → Token → Option (List ℕ)
as_word line t = if is_word t then Some (text_of line t) else None

-- The number of the field with this key. The line is unreadable if it is no integer, negative or above the limit.
abbrev pub number_at : List ℕ → List ℕ → List Field → Option (Option ℕ)
number_at line key fields = read_as None (as_number line) (only_value line key fields)

-- the node of the field with this key
abbrev pub node_at : List ℕ → List ℕ → List Field → Option (Option ℕ)
node_at line key fields = read_as None (as_node line) (only_value line key fields)

-- the bytes inside the quotes of the field with this key, empty if there is no such field
abbrev pub text_at : List ℕ → List ℕ → List Field → Option (List ℕ)
text_at line key fields = read_as [] (as_text line) (only_value line key fields)

-- the word of the field with this key, empty if there is no such field
abbrev pub word_at : List ℕ → List ℕ → List Field → Option (List ℕ)
word_at line key fields = read_as [] (as_word line) (only_value line key fields)

-- the bytes that were borrowed are these
abbrev pub Spells : Option (Bor (List ℕ)) → Option (List ℕ) → Type 0
Spells None read = read ≡ None
Spells (Some b) read = read ≡ Some b.now
