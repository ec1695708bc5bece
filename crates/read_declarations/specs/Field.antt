-- The values of an entry's fields.
use Rattle.std.specs.Prelude.{ℕ, zero, suc, Bool, false, ◌==◌, if◌then◌else◌, codes, List, [], ◌∷◌, Option, Some, None}
use Rattle.std.specs.Str.{bytes_eq}
use Rattle.read_lexer.specs.declared.line.Line.{Line}
use Rattle.read_metadata.specs.Number.{spelled, integer_of}
use Rattle.read_metadata.specs.Text.{inside_quotes}
use Rattle.read_metadata.specs.Token.{is_integer, is_text}
use Rattle.read_declarations.specs.declared.stream.YamlToken.{YamlToken}
use Rattle.read_declarations.specs.declared.entry.MappingField.{MappingField}
use Rattle.read_declarations.specs.Stream.{text_at}

-- the value of the field with a key
unfoldable pub value_at : List Line → List ℕ → List MappingField → Option YamlToken
value_at lines key [] = None
value_at lines key (f ∷ fs) = if bytes_eq (text_at lines f.key) key then Some f.value else value_at lines key fs

-- the number that a value spells: an integer from 0 to 2^30 - 1
abbrev pub number_of : List Line → YamlToken → Option ℕ
number_of lines value = if is_integer value.token then integer_of (text_at lines value) else None

-- the number that a value spells, or `missing` if there is no value
abbrev pub number_in : List Line → Option ℕ → Option YamlToken → Option ℕ
number_in lines missing None = missing
number_in lines missing (Some value) = number_of lines value

-- the number of the field with this key, if there is such a field and it spells a number
abbrev pub needed : List Line → List ℕ → List MappingField → Option ℕ
needed lines key fields = number_in lines None (value_at lines key fields)

-- the number of the field with this key, or `missing` if there is no such field
abbrev pub given : List Line → List ℕ → ℕ → List MappingField → Option ℕ
given lines key missing fields = number_in lines (Some missing) (value_at lines key fields)

-- a number, if it isn't 0
abbrev pub positive : Option ℕ → Option ℕ
positive None = None
positive (Some zero) = None
positive (Some (suc n)) = Some (suc n)

-- n where a text is a minus sign and n, from 1 to 2^30 - 1
abbrev pub negated_of : List ℕ → Option ℕ
negated_of [] = None
negated_of (a ∷ bs) = if a == 45 then positive (spelled 10 bs) else None

-- n where a value is the integer -n, from -2^30 + 1 to -1
abbrev pub negated_in : List Line → Option YamlToken → Option ℕ
negated_in lines None = None
negated_in lines (Some value) = if is_integer value.token then negated_of (text_at lines value) else None

-- n where the field with this key is the integer -n; None if there is no such field, or it has another value
abbrev pub negated : List Line → List ℕ → List MappingField → Option ℕ
negated lines key fields = negated_in lines (value_at lines key fields)

-- the text of a value, without its quotes if it has them
abbrev pub plain : List Line → YamlToken → List ℕ
plain lines value = if is_text value.token then inside_quotes (text_at lines value) else text_at lines value

-- whether there is a value and its text, without quotes, is this
abbrev pub says : List Line → List ℕ → Option YamlToken → Bool
says lines text None = false
says lines text (Some value) = bytes_eq (plain lines value) text

-- `type: variable-sized`
abbrev pub is_variable_sized : List Line → List MappingField → Bool
is_variable_sized lines fields = says lines (codes "variable-sized") (value_at lines (codes "type") fields)
