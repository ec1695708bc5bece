-- The marker lines between documents, and the keys of a function's document.
use Rattle.std.specs.Prelude.{ℕ, Bool, true, ◌&&◌, ◌||◌, ◌==◌, nat_lt, if◌then◌else◌, codes, List, [], ◌∷◌, take, slice_index, Option, Some, None}
use Rattle.std.specs.List.{prefix_len}
use Rattle.std.specs.Char.{is_ascii_alphanumeric}
use Rattle.std.specs.Str.{bytes_eq}
use Rattle.read_documents.specs.declared.key.Key.{Key}
use Rattle.read_documents.specs.declared.key.Key.TheVariants.{Name, Stack, FixedStack, DebugValueSubstitutions, Constants, ReturnsTwice, Body, Other}

-- the line `...`, which closes a document
unfoldable pub is_close : List ℕ → Bool
is_close text = bytes_eq text (codes "...")

-- the line `--- |`, which opens the IR block
unfoldable pub opens_block : List ℕ → Bool
opens_block text = bytes_eq text (codes "--- |")

-- the line `---`, which opens a function
unfoldable pub opens_function : List ℕ → Bool
opens_function text = bytes_eq text (codes "---")

-- between documents, an empty line and one that begins with `#` or `;` are ignored
abbrev pub is_passed : List ℕ → Bool
is_passed [] = true
is_passed (b ∷ bs) = b == 35 || b == 59

-- before `body`, an empty line and one that begins with a space, `-` or `#` may lack a key
abbrev pub is_plain : List ℕ → Bool
is_plain [] = true
is_plain (b ∷ bs) = b == 32 || b == 45 || b == 35

-- whether a byte may be part of a key: a letter, a digit or `_`
abbrev pub is_key_byte : ℕ → Bool
is_key_byte b = is_ascii_alphanumeric b || b == 95

-- the key that a name spells; any name but the seven that are kept is `Other`
abbrev pub key_of : List ℕ → Key
key_of name =
    if bytes_eq name (codes "name") then Name
    else (if bytes_eq name (codes "stack") then Stack
    else (if bytes_eq name (codes "fixedStack") then FixedStack
    else (if bytes_eq name (codes "debugValueSubstitutions") then DebugValueSubstitutions
    else (if bytes_eq name (codes "constants") then Constants
    else (if bytes_eq name (codes "exposesReturnsTwice") then ReturnsTwice
    else (if bytes_eq name (codes "body") then Body
    else Other))))))

-- the key at the start of a line: one or more key bytes and then `:`
unfoldable pub heading : List ℕ → Option Key
heading text =
    if nat_lt 0 (prefix_len is_key_byte text) && slice_index text (prefix_len is_key_byte text) == 58
    then Some (key_of (take (prefix_len is_key_byte text) text))
    else None
