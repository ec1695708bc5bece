-- The values of fields. A value of another form makes the line unreadable, or is as if the field were missing: that is each kind's choice.
use Rattle.std.specs.Prelude.{ℕ, Bool, false, ◌&&◌, ◌||◌, if◌then◌else◌, unwrap_or, codes, List, [], ◌∷◌, Option, Some, None}
use Rattle.std.specs.List.{list_any}
use Rattle.std.specs.Str.{bytes_eq}
use Rattle.read_metadata.specs.read_lexer.declared.parts.Token.{Token}
use Rattle.read_metadata.specs.Number.{node_number}
use Rattle.read_metadata.specs.Token.{is_word, is_node, is_integer, text_of}
use Rattle.read_metadata.specs.Field.{read_as, there, as_number, as_text, as_word}
use Rattle.read_debug_nodes.specs.declared.field.NodeField.{NodeField}
use Rattle.read_debug_nodes.specs.declared.number.EnumeratorValue.{EnumeratorValue}
use Rattle.read_debug_nodes.specs.Field.{field_at}
use Rattle.read_debug_nodes.specs.Number.{MAX_SIZE, integer_within, enumerator_value}

-- whether a token is the word `null`
abbrev pub is_null : (line : List ℕ) → Token → Bool
is_null line t = is_word t && bytes_eq (text_of line t) (codes "null")

-- a value of one token
abbrev pub single : Token → List Token → Option (Option Token)
single t [] = Some (Some t)
single t (u ∷ us) = None

abbrev pub value_of : Option NodeField → Option (Option Token)
value_of None = Some None
value_of (Some f) = single f.first f.rest

-- the value of the field with this key, if there is one; none if it has several tokens
abbrev pub only_value : (line key : List ℕ) → List NodeField → Option (Option Token)
only_value line key fields = value_of (field_at line key fields)

-- a number from 0 to 2^30 - 1
abbrev pub number_at : (line key : List ℕ) → List NodeField → Option (Option ℕ)
number_at line key fields = read_as None (as_number line) (only_value line key fields)

-- such a number, 0 if the field is missing or of another form
abbrev pub line_at : (line key : List ℕ) → List NodeField → ℕ
line_at line key fields = unwrap_or (unwrap_or (number_at line key fields) None) 0

abbrev pub as_size : (line : List ℕ) → Token → Option ℕ
as_size line t = if is_integer t then integer_within MAX_SIZE (text_of line t) else None

-- a size or an offset in bits, 0 if the field is missing
abbrev pub size_at : (line key : List ℕ) → List NodeField → Option ℕ
size_at line key fields = read_as 0 (as_size line) (only_value line key fields)

abbrev pub count_of : (line : List ℕ) → Option (Option Token) → Option ℕ
count_of line None = None
count_of line (Some None) = None
count_of line (Some (Some t)) = as_size line t

-- a number of elements, none if the field is missing or of another form
abbrev pub count_at : (line key : List ℕ) → List NodeField → Option ℕ
count_at line key fields = count_of line (only_value line key fields)

abbrev pub as_enumerator : (line : List ℕ) → Token → Option EnumeratorValue
as_enumerator line t = if is_integer t then enumerator_value (text_of line t) else None

-- the value of an enumerator, 0 if the field is missing
abbrev pub enumerator_at : (line key : List ℕ) → List NodeField → Option EnumeratorValue
enumerator_at line key fields = read_as (record { value = 0; negative = None }) (as_enumerator line) (only_value line key fields)

-- a node, none for `null`
abbrev pub as_node : (line : List ℕ) → Token → Option (Option ℕ)
as_node line t = if is_node t then there (node_number (text_of line t)) else (if is_null line t then Some None else None)

-- a node, none for `null` and if the field is missing
abbrev pub node_at : (line key : List ℕ) → List NodeField → Option (Option ℕ)
node_at line key fields = read_as None (as_node line) (only_value line key fields)

-- a node, none also if the field is of another form
abbrev pub node_or_none : (line key : List ℕ) → List NodeField → Option ℕ
node_or_none line key fields = unwrap_or (node_at line key fields) None

-- the bytes inside quotes, empty if the field is missing
abbrev pub text_at : (line key : List ℕ) → List NodeField → Option (List ℕ)
text_at line key fields = read_as [] (as_text line) (only_value line key fields)

-- the bytes inside quotes, empty also if the field is of another form
abbrev pub text_or_none : (line key : List ℕ) → List NodeField → List ℕ
text_or_none line key fields = unwrap_or (text_at line key fields) []

-- a word, empty if the field is missing
abbrev pub word_at : (line key : List ℕ) → List NodeField → Option (List ℕ)
word_at line key fields = read_as [] (as_word line) (only_value line key fields)

-- a word, empty also if the field is of another form
abbrev pub word_or_none : (line key : List ℕ) → List NodeField → List ℕ
word_or_none line key fields = unwrap_or (word_at line key fields) []

-- whether a token is a word that spells a flag
abbrev pub is_flag : (line flag : List ℕ) → Token → Bool
is_flag line flag t = is_word t && bytes_eq (text_of line t) flag

abbrev pub flag_in : (line flag : List ℕ) → Option NodeField → Bool
flag_in line flag None = false
flag_in line flag (Some f) = is_flag line flag f.first || list_any (is_flag line flag) f.rest

-- whether a flag is among the words of the field with this key
abbrev pub has_flag : (line key flag : List ℕ) → List NodeField → Bool
has_flag line key flag fields = flag_in line flag (field_at line key fields)
