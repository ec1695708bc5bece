-- The name of a function: a word, or a text in quotes. (YAML 1.2, "Single-Quoted Style"; in double quotes `\XX` is a byte,
-- as in LLVM's own texts.)
use Rattle.std.specs.Prelude.{false, ℕ, Bool, true, ◌&&◌, ◌==◌, if◌then◌else◌, drop, List, [], ◌∷◌, Option, Some, None, Result, Ok, Err}
use Rattle.std.specs.List.{flat_map, starts_with}
use Rattle.std.specs.Prelude.{nat_eq}
use Rattle.read_lexer.specs.declared.fault.LexError.{LexError}
use Rattle.read_lexer.specs.declared.line.Line.{Line}
use Rattle.read_lexer.specs.declared.parts.Token.{Token}
use Rattle.read_lexer.specs.Line.{tokens_of}
use Rattle.read_metadata.specs.Text.{unescaped, inside_quotes}
use Rattle.read_metadata.specs.Token.{is_text, is_word, text_of}
use Rattle.read_refusal.specs.declared.first.Refusal.{Refusal}
use Rattle.read_declarations.specs.declared.name.NameRead.{NameRead}
use Rattle.read_declarations.specs.declared.name.Spelling.{Spelling}
use Rattle.read_declarations.specs.declared.name.Spelling.TheVariants.{Bare, Double, Single, Wrong}
use Rattle.read_declarations.specs.Stream.{kind_of}
use Rattle.read_declarations.specs.FlowMapping.{bad_line}

-- whether a token is a text in these quotes
abbrev pub opens_with : List ℕ → ℕ → Token → Bool
opens_with line quote t = is_text t && starts_with nat_eq (text_of line t) (quote ∷ [])

-- whether a token is a text in single quotes that starts at this index
abbrev pub is_single_at : List ℕ → ℕ → Token → Bool
is_single_at line start t = opens_with line 39 t && t.start == start

-- whether tokens are adjacent texts in single quotes, the first at this index
unfoldable pub are_single : List ℕ → ℕ → List Token → Bool
are_single line start [] = true
are_single line start (t ∷ ts) = is_single_at line start t && are_single line t.end ts

-- how a single token spells a name
abbrev pub spelling_alone : List ℕ → Token → Spelling
spelling_alone line t =
    if is_word t then Bare
    else (if opens_with line 34 t then Double
    else (if are_single line t.start (t ∷ []) then Single else Wrong))

-- How tokens spell a name: as a word, as a text in double quotes, or as adjacent texts in single quotes, since `''` between single quotes is one quote.
unfoldable pub spelling_of : List ℕ → List Token → Spelling
spelling_of line [] = Wrong
spelling_of line (t ∷ []) = spelling_alone line t
spelling_of line (t ∷ u ∷ ts) = if are_single line t.start (t ∷ u ∷ ts) then Single else Wrong

-- the name that adjacent texts in single quotes spell: their contents, with one quote between each two
abbrev pub joined : List ℕ → List Token → List ℕ
joined line ts = drop 1 (flat_map (λ t. 39 ∷ inside_quotes (text_of line t)) ts)

-- the bytes of the first token
abbrev pub first_text : List ℕ → List Token → List ℕ
first_text line [] = []
first_text line (t ∷ ts) = text_of line t

-- the name that tokens spell, given how they spell it
abbrev pub name_by : List ℕ → Spelling → List Token → List ℕ
name_by line Bare ts = first_text line ts
name_by line Double ts = unescaped (inside_quotes (first_text line ts))
name_by line Single ts = joined line ts
name_by line Wrong ts = []

-- a line whose tokens spell no name is refused
abbrev pub refused_by : ℕ → Spelling → Option Refusal
refused_by line Bare = None
refused_by line Double = None
refused_by line Single = None
refused_by line Wrong = Some (bad_line line)

-- the name that the tokens after the key and its colon spell
abbrev pub name_of_tokens : Line → List Token → NameRead
name_of_tokens line ts = record { name = name_by line.text (spelling_of line.text ts) ts; refused = refused_by line.number (spelling_of line.text ts) }

-- the name on a line, from the line's tokens, or the refusal of the line
abbrev pub name_read : Line → Result (List Token) LexError → NameRead
name_read line (Ok ts) = name_of_tokens line (drop 2 ts)
name_read line (Err e) = record { name = []; refused = Some (record { line = line.number; kind = kind_of e }) }

-- the name on the key's own line
abbrev pub name_of_line : Line → NameRead
name_of_line line = name_read line (tokens_of false line.text)

-- The name in the lines of the key `name`: only the key's own line counts, and without lines the name is empty.
abbrev pub name_of : List Line → NameRead
name_of [] = record { name = []; refused = None }
name_of (line ∷ lines) = name_of_line line
