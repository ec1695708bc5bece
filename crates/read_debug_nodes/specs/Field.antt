-- The fields of a metadata node with all their tokens. No key comes twice. (LLVM Language Reference Manual, "Specialized Metadata Nodes".)
use Rattle.std.specs.Prelude.{ℕ, Bool, false, ◌||◌, if◌then◌else◌, List, [], ◌∷◌, Option, Some, None}
use Rattle.std.specs.List.{list_any}
use Rattle.std.specs.Str.{bytes_eq}
use Rattle.read_metadata.specs.read_lexer.declared.parts.Token.{Token}
use Rattle.read_metadata.specs.Token.{text_of}
use Rattle.read_metadata.specs.Field.{is_end, is_key, pieces}
use Rattle.read_debug_nodes.specs.declared.field.NodeField.{NodeField}

-- the field that a piece is: a key, and its value, of one token or several
abbrev pub field_of : List Token → Option NodeField
field_of (key ∷ colon ∷ first ∷ rest) = if is_key key colon then Some (record { key = key; first = first; rest = rest }) else None
field_of ts = None

-- a field before others
abbrev pub before_fields : Option NodeField → Option (List NodeField) → Option (List NodeField)
before_fields (Some f) (Some fs) = Some (f ∷ fs)
before_fields _ _ = None

-- the fields that pieces are, if each is a field
abbrev pub each_field : List (List Token) → Option (List NodeField)
each_field [] = Some []
each_field (p ∷ ps) = before_fields (field_of p) (each_field ps)

-- the fields of pieces, if there are pieces and each is a field
abbrev pub all_fields : Option (List (List Token)) → Option (List NodeField)
all_fields None = None
all_fields (Some ps) = each_field ps

-- the fields after a node's opening bracket, up to the closing one, which must end the line
abbrev pub fields_of : List Token → Option (List NodeField)
fields_of ts = if is_end ts then Some [] else all_fields (pieces 0 ts)

-- the fields, if only the closing bracket of the node is left
abbrev pub ended : List NodeField → List Token → Option (List NodeField)
ended fields ts = if is_end ts then Some fields else None

-- whether some field has a key
abbrev pub has_key : (line key : List ℕ) → List NodeField → Bool
has_key line key fields = list_any (λ f. bytes_eq (text_of line f.key) key) fields

-- whether a key comes twice
abbrev pub repeats : (line : List ℕ) → List NodeField → Bool
repeats line [] = false
repeats line (f ∷ fs) = has_key line (text_of line f.key) fs || repeats line fs

-- fields of which no key comes twice
abbrev pub apart : (line : List ℕ) → Option (List NodeField) → Option (List NodeField)
apart line None = None
apart line (Some fields) = if repeats line fields then None else Some fields

-- the fields after a node's opening bracket, if they are fields and no key comes twice
abbrev pub unrepeated : (line : List ℕ) → List Token → Option (List NodeField)
unrepeated line ts = apart line (fields_of ts)

-- the field with a key
abbrev pub field_at : (line key : List ℕ) → List NodeField → Option NodeField
field_at line key [] = None
field_at line key (f ∷ fs) = if bytes_eq (text_of line f.key) key then Some f else field_at line key fs
