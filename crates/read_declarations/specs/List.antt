-- The list under a key: `[]`, or entries on the lines of the key.
use Rattle.std.specs.Prelude.{Bool, ◌&&◌, ◌==◌, if◌then◌else◌, is_some, drop, List, [], ◌∷◌, Option, Some, None}
use Rattle.read_lexer.specs.declared.line.Line.{Line}
use Rattle.read_refusal.specs.declared.first.Refusal.{Refusal}
use Rattle.read_refusal.specs.First.{earlier}
use Rattle.read_declarations.specs.declared.stream.YamlToken.{YamlToken}
use Rattle.read_declarations.specs.declared.entry.Listing.{Listing}
use Rattle.read_declarations.specs.Stream.{stream_of}
use Rattle.read_declarations.specs.FlowMapping.{is_punctuation, bad_line, entries_of}

-- whether two tokens are `[` and `]` on the key's own line
abbrev pub is_empty_list : YamlToken → YamlToken → Bool
is_empty_list a b = is_punctuation 91 a && (is_punctuation 93 b && (a.at == 0 && b.at == 0))

-- no token may follow `[]`
abbrev pub behind_empty : List YamlToken → Option Refusal
behind_empty [] = None
behind_empty (p ∷ ps) = Some (bad_line p.line)

-- the list in the tokens after a key
unfoldable pub list_in : List Line → Bool → List YamlToken → Listing
list_in lines cut [] = entries_of lines cut []
list_in lines cut (a ∷ []) = entries_of lines cut (a ∷ [])
list_in lines cut (a ∷ b ∷ ps) = if is_empty_list a b then record { entries = []; refused = behind_empty ps } else entries_of lines cut (a ∷ b ∷ ps)

-- a list whose tokens may end at a lexical fault; its refusal is the earlier of that fault and its own
abbrev pub with_fault : Option Refusal → Listing → Listing
with_fault fault read = record { entries = read.entries; refused = earlier fault read.refused }

-- The list in the lines of a key. The first two tokens are the key and its colon.
abbrev pub list_of : List Line → Listing
list_of lines = with_fault (stream_of lines).fault (list_in lines (is_some (stream_of lines).fault) (drop 2 (stream_of lines).pieces))
