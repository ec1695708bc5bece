-- The entries of a list: `- { key: value, .. }`. (YAML 1.2, "Block Sequences" and "Flow Mappings"; LLVM, "Machine IR (MIR)
-- Format Reference Manual", has the lists.)
use Rattle.std.specs.Prelude.{◌≡◌, ℕ, Bool, not, ◌&&◌, ◌||◌, if◌then◌else◌, List, [], ◌∷◌, ◌++◌, Option, Some, None}
use Rattle.std.specs.List.{list_any}
use Rattle.std.specs.Str.{bytes_eq}
use Rattle.std.specs.Borrow.{Bor}
use Rattle.std.specs.Ordering.{nat_cmp}
use Rattle.std.specs.Cmp.Lexicographic.{slice_cmp}
use Rattle.std.specs.BTreeSet.{BTreeSet, contains_by}
use Rattle.read_lexer.specs.declared.line.Line.{Line}
use Rattle.read_metadata.specs.Token.{is_byte, is_word, is_integer, is_text}
use Rattle.read_refusal.specs.declared.first.Refusal.{Refusal}
use Rattle.read_refusal.specs.declared.kind.RefusalKind.TheVariants.{BadLine}
use Rattle.read_declarations.specs.declared.stream.YamlToken.{YamlToken}
use Rattle.read_declarations.specs.declared.entry.MappingField.{MappingField}
use Rattle.read_declarations.specs.declared.entry.ParserState.{ParserState}
use Rattle.read_declarations.specs.declared.entry.ParserState.TheVariants.{Outside, Dash, Key, Colon, Value, Next}
use Rattle.read_declarations.specs.declared.entry.OpenList.{OpenList}
use Rattle.read_declarations.specs.declared.entry.Listing.{Listing}
use Rattle.read_declarations.specs.Stream.{text_at}

-- whether a token is this byte alone
abbrev pub is_punctuation : ℕ → YamlToken → Bool
is_punctuation byte p = is_byte byte p.token

-- a value: a word, an integer or a text
abbrev pub is_value : YamlToken → Bool
is_value p = is_word p.token || (is_integer p.token || is_text p.token)

-- whether one of these fields has the same key
abbrev pub has_key : List Line → List MappingField → YamlToken → Bool
has_key lines fields key = list_any (λ f. bytes_eq (text_at lines f.key) (text_at lines key)) fields

-- whether a set of texts has this one
abbrev pub has_text : BTreeSet (Bor (List ℕ)) → List ℕ → Bool
has_text keys t = contains_by (λ k. slice_cmp nat_cmp t k.now) keys

-- a set contains the keys of these fields and no others
abbrev pub AreKeys : List Line → BTreeSet (Bor (List ℕ)) → List MappingField → Type 0
AreKeys lines keys fields = (t : List ℕ) → has_text keys t ≡ list_any (λ f. bytes_eq (text_at lines f.key) t) fields

-- if the set `keys` contains the keys of `fields` and no others, then `new` contains those of `others` and no more
abbrev pub KeepsKeys : BTreeSet (Bor (List ℕ)) → List MappingField → BTreeSet (Bor (List ℕ)) → List MappingField → Type 0
KeepsKeys keys fields new others = (lines : List Line) → AreKeys lines keys fields → AreKeys lines new others

-- the refusal of a line that has no accepted form
abbrev pub bad_line : ℕ → Refusal
bad_line line = record { line = line; kind = BadLine }

-- Whether a token may come next at each place: an entry is `-` and fields in braces, separated by `,`; a field is a word, `:` and a value; and no key
-- occurs twice in an entry.
abbrev pub fits_at : List Line → List MappingField → ParserState → YamlToken → Bool
fits_at lines fields Outside p = is_punctuation 45 p
fits_at lines fields Dash p = is_punctuation 123 p
fits_at lines fields Key p = is_word p.token
fits_at lines fields (Colon key) p = is_punctuation 58 p
fits_at lines fields (Value key) p = is_value p && not (has_key lines fields key)
fits_at lines fields Next p = is_punctuation 44 p || is_punctuation 125 p

-- the first line of the entry that a token belongs to, where `line` is that of the open entry
abbrev pub line_at : ℕ → ParserState → YamlToken → ℕ
line_at line Outside p = p.line
line_at line Dash p = line
line_at line Key p = line
line_at line (Colon key) p = line
line_at line (Value key) p = line
line_at line Next p = line

-- the state before the first token
abbrev pub nothing_read : OpenList
nothing_read = record { entries = []; place = Outside; line = 0; fields = [] }

-- after a value `,` is followed by a key, and `}` ends the entry
abbrev pub behind_value : OpenList → YamlToken → OpenList
behind_value so_far p =
    if is_punctuation 44 p then record so_far { place = Key }
    else record { entries = so_far.entries ++ record { line = so_far.line; fields = so_far.fields } ∷ []; place = Outside; line = so_far.line; fields = [] }

-- the state after one more field
abbrev pub with_field : OpenList → YamlToken → YamlToken → OpenList
with_field so_far key value = record so_far { place = Next; fields = so_far.fields ++ record { key = key; value = value } ∷ [] }

-- the state after a token that may come next
abbrev pub behind : OpenList → ParserState → YamlToken → OpenList
behind so_far Outside p = record so_far { place = Dash; line = p.line }
behind so_far Dash p = record so_far { place = Key }
behind so_far Key p = record so_far { place = Colon p }
behind so_far (Colon key) p = record so_far { place = Value key }
behind so_far (Value key) p = with_field so_far key p
behind so_far Next p = behind_value so_far p

-- the refusal of an entry that is still open, unless a fault cut off the tokens
abbrev pub left_open : Bool → ℕ → Option Refusal
left_open cut line = if cut then None else Some (bad_line line)

-- the refusal where the tokens end: an entry has to be closed by then, unless a fault cut the tokens off
abbrev pub refused_at_end : Bool → ℕ → ParserState → Option Refusal
refused_at_end cut line Outside = None
refused_at_end cut line Dash = left_open cut line
refused_at_end cut line Key = left_open cut line
refused_at_end cut line (Colon key) = left_open cut line
refused_at_end cut line (Value key) = left_open cut line
refused_at_end cut line Next = left_open cut line

-- the result at the end of the tokens
abbrev pub ended : Bool → OpenList → Listing
ended cut so_far = record { entries = so_far.entries; refused = refused_at_end cut so_far.line so_far.place }

-- The entries of a list up to the first token that can't come next; that token's entry is refused at its first line.
unfoldable pub entries_from : List Line → Bool → OpenList → List YamlToken → Listing
entries_from lines cut so_far [] = ended cut so_far
entries_from lines cut so_far (p ∷ ps) =
    if fits_at lines so_far.fields so_far.place p then entries_from lines cut (behind so_far so_far.place p) ps
    else record { entries = so_far.entries; refused = Some (bad_line (line_at so_far.line so_far.place p)) }

-- the list of entries in these tokens
abbrev pub entries_of : List Line → Bool → List YamlToken → Listing
entries_of lines cut ps = entries_from lines cut nothing_read ps
