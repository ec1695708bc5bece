-- The YAML documents of a machine IR file, as a function of its lines.
use Rattle.std.specs.Prelude.{ℕ, zero, suc, ◌+◌, Bool, true, false, not, ◌&&◌, ◌||◌, nat_lt, if◌then◌else◌, List, [], ◌∷◌, ◌++◌, length, filter, Option, Some}
use Rattle.std.specs.Prelude.{None, is_none, unwrap_or}
use Rattle.std.specs.List.{list_any, before_first, position_or_len}
use Rattle.std.specs.Option.{option_map_or}
use Rattle.read_lexer.specs.declared.line.Line.{Line}
use Rattle.read_documents.specs.declared.key.Key.{Key}
use Rattle.read_documents.specs.declared.key.Key.TheVariants.{Name, Stack, FixedStack, DebugValueSubstitutions, Constants, ReturnsTwice, Body, Other}
use Rattle.read_documents.specs.declared.parts.FunctionDocument.{FunctionDocument}
use Rattle.read_documents.specs.declared.parts.Documents.{Documents}
use Rattle.read_documents.specs.Key.{is_close, opens_block, opens_function, is_passed, is_plain, heading}
use Rattle.read_documents.specs.Lines.{lines_of}

-- ---- the lines of a function, between the one that opens it and the one that closes it

-- whether two keys are the same
abbrev pub same_key : Key → Key → Bool
same_key Name Name = true
same_key Stack Stack = true
same_key FixedStack FixedStack = true
same_key DebugValueSubstitutions DebugValueSubstitutions = true
same_key Constants Constants = true
same_key ReturnsTwice ReturnsTwice = true
same_key Body Body = true
same_key Other Other = true
same_key _ _ = false

-- whether a line begins with a key
abbrev pub begins : Key → Line → Bool
begins key line = option_map_or (same_key key) (heading line.text) false

-- whether one of the lines begins with a key
abbrev pub has_key : Key → List Line → Bool
has_key key lines = list_any (begins key) lines

-- the key that a line belongs to: the one that it begins with, else that of the line before
abbrev pub key_behind : Key → Line → Key
key_behind before line = unwrap_or (heading line.text) before

-- the lines that belong to a key, where `before` is the key of the line before the first
unfoldable pub lines_under : Key → Key → List Line → List Line
lines_under key before [] = []
lines_under key before (line ∷ lines) =
    if same_key key (key_behind before line) then line ∷ lines_under key (key_behind before line) lines
    else lines_under key (key_behind before line) lines

-- the document of a function: the lines of each key that is kept, those of `body` without the key's own line, and the numbers of the lines that open and
-- close it
unfoldable pub function_document : (linked : Bool) → ℕ → List Line → ℕ → FunctionDocument
function_document linked opened lines closed = record {
  opened = opened;
  closed = closed;
  linked = linked;
  name = lines_under Name Other lines;
  stack = lines_under Stack Other lines;
  fixed = lines_under FixedStack Other lines;
  substitutions = lines_under DebugValueSubstitutions Other lines;
  constants = lines_under Constants Other lines;
  twice = lines_under ReturnsTwice Other lines;
  body = filter (λ line. is_none (heading line.text)) (lines_under Body Other lines);
}

-- whether a key may come once: each that is kept, but those of the linked language only there
abbrev pub comes_once : (linked : Bool) → Key → Bool
comes_once linked Constants = linked
comes_once linked ReturnsTwice = linked
comes_once linked Other = false
comes_once linked _ = true

-- a line begins with a key that may come once and that an earlier line of the function begins with too
abbrev pub is_repeated : (linked : Bool) → List Line → Line → Bool
is_repeated linked earlier line = option_map_or (λ key. comes_once linked key && has_key key earlier) (heading line.text) false

-- a line before `body` begins with no key and isn't plain
abbrev pub is_stray : List Line → Line → Bool
is_stray earlier line = is_none (heading line.text) && (not (is_plain line.text) && not (has_key Body earlier))

-- whether a line is a fault in a function, after the lines `earlier` of that function
unfoldable pub is_fault : (linked : Bool) → List Line → Line → Bool
is_fault linked earlier line = (opens_block line.text || opens_function line.text) || (is_repeated linked earlier line || is_stray earlier line)

-- the number of the first line that is a fault in a function, after the lines `earlier` of it
unfoldable pub first_fault : (linked : Bool) → List Line → List Line → Option ℕ
first_fault linked earlier [] = None
first_fault linked earlier (line ∷ lines) = if is_fault linked earlier line then Some line.number else first_fault linked (earlier ++ line ∷ []) lines

-- a function has a name and a body
abbrev pub is_complete : List Line → Bool
is_complete lines = has_key Name lines && has_key Body lines

-- ---- documents

-- the lines before the first that closes a document, or all of them
unfoldable pub inside : List Line → List Line
inside lines = before_first (λ line. is_close line.text) lines

-- whether one of the lines closes the document
unfoldable pub is_closed : List Line → Bool
is_closed lines = nat_lt (position_or_len (λ line. is_close line.text) lines) (length lines)

-- no documents, and a fault at this line
abbrev pub stops : ℕ → Documents
stops number = record { meta = []; functions = []; bad = Some number }

-- The IR block that line `opened` opens, where `lines` are all lines after that one and `others` the documents after the block. A block that isn't closed
-- is a fault at the last line.
unfoldable pub block_from : ℕ → List Line → Documents → Documents
block_from opened lines others =
    if is_closed lines then record others { meta = inside lines ++ others.meta }
    else record { meta = inside lines; functions = []; bad = Some (opened + length lines) }

-- a fault at this line, if there is one, and else the documents `others`
abbrev pub fault_or : Option ℕ → Documents → Documents
fault_or (Some number) others = stops number
fault_or None others = others

-- The function that line `opened` opens, where `lines` are all lines after that one and `others` the documents after the function. The first fault inside
-- ends the list. A function without a name or a body is a fault at the line that opens it, and one that isn't closed a fault at the last line.
unfoldable pub function_from : (linked : Bool) → ℕ → List Line → Documents → Documents
function_from linked opened lines others =
    fault_or (first_fault linked [] (inside lines))
    (if is_complete (inside lines)
    then (if is_closed lines
    then record others { functions = function_document linked opened (inside lines) (opened + length (inside lines) + 1) ∷ others.functions }
    else stops (opened + length lines))
    else stops opened)

-- The documents of lines. The first `skipped` lines belong to a document that has been read. `had_block` is whether the IR block came before.
unfoldable pub documents_from : (linked : Bool) → ℕ → Bool → List Line → Documents
documents_from linked skipped had_block [] = record { meta = []; functions = []; bad = None }
documents_from linked (suc skipped) had_block (line ∷ lines) = documents_from linked skipped had_block lines
documents_from linked zero had_block (line ∷ lines) =
    if is_passed line.text then documents_from linked 0 had_block lines
    else (if opens_block line.text
    then (if had_block then stops line.number else block_from line.number lines (documents_from linked (suc (length (inside lines))) true lines))
    else (if opens_function line.text
    then function_from linked line.number lines (documents_from linked (suc (length (inside lines))) had_block lines)
    else stops line.number))

-- the documents of a text; `linked` is whether its functions are read in the linked language
abbrev pub documents_of : (linked : Bool) → List ℕ → Documents
documents_of linked text = documents_from linked 0 false (lines_of text)
