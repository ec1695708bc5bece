-- The printed documents of functions, and what they are read as.
use Rattle.std.specs.Prelude.{◌≡◌, false, ℕ, ◌+◌, Bool, true, not, ◌&&◌, ◌==◌, nat_le, codes, List, [], ◌∷◌, ◌++◌, length, All, Some, None}
use Rattle.std.specs.List.{flat_map, list_all}
use Rattle.read_lexer.specs.declared.line.Line.{Line}
use Rattle.read_documents.specs.declared.key.Key.{Key}
use Rattle.read_documents.specs.declared.key.Key.TheVariants.{Name, Stack, DebugValueSubstitutions}
use Rattle.read_documents.specs.declared.parts.FunctionDocument.{FunctionDocument}
use Rattle.read_documents.specs.Documents.{documents_of}
use Rattle.read_documents.specs.Key.{heading}

-- ---- lines

-- printable ASCII
abbrev pub is_printed : ℕ → Bool
is_printed b = nat_le 32 b && nat_le b 126

-- whether the last byte is no space, and `so_far` if there are no bytes
abbrev pub ends_visibly : Bool → List ℕ → Bool
ends_visibly so_far [] = so_far
ends_visibly so_far (b ∷ bs) = ends_visibly (not (b == 32)) bs

-- a line that is read unchanged: printable ASCII, and no space at its end
pub record IsLine (line : List ℕ) : Type 0 where
  pub printed : list_all is_printed line ≡ true
  pub ends : ends_visibly true line ≡ true

-- a line that begins with a space
abbrev pub IsIndented : List ℕ → Type 0
IsIndented line = (rest : List ℕ) × (line ≡ 32 ∷ rest)

-- a line with its line feed
abbrev pub fed : List ℕ → List ℕ
fed line = line ++ 10 ∷ []

-- the text of lines
abbrev pub text_of_lines : List (List ℕ) → List ℕ
text_of_lines lines = flat_map fed lines

-- lines of a text, numbered from n on
abbrev pub lines_from : ℕ → List (List ℕ) → List Line
lines_from n [] = []
lines_from n (text ∷ texts) = record { number = n; text = text } ∷ lines_from (n + 1) texts

-- ---- documents

-- the parts of a function's document: the line of its name, the lines of its stack and of its substitutions, either of which may be empty, and those of its
-- blocks
pub record Document : Type 0 where
  pub name : List ℕ
  pub stack : List (List ℕ)
  pub substitutions : List (List ℕ)
  pub body : List (List ℕ)

-- the lines after that of the name
abbrev pub behind_name : Document → List (List ℕ)
behind_name d = d.stack ++ (d.substitutions ++ codes "body: |" ∷ (d.body ++ codes "..." ∷ []))

-- the lines of a document, including those that open and close it
abbrev pub document_lines : Document → List (List ℕ)
document_lines d = codes "---" ∷ d.name ∷ behind_name d

-- no lines, or a key's own line and indented ones
abbrev pub IsSection : Key → List (List ℕ) → Type 0
IsSection key [] = Unit {0}
IsSection key (line ∷ lines) = (heading line ≡ Some key) × All IsIndented lines

-- all lines of a document are read unchanged, and belong to their keys
pub record IsDocument (d : Document) : Type 0 where
  pub printed : All IsLine (document_lines d)
  pub name : heading d.name ≡ Some Name
  pub stack : IsSection Stack d.stack
  pub substitutions : IsSection DebugValueSubstitutions d.substitutions
  pub body : All IsIndented d.body

-- a document as it is read if it begins at line `n`, not in the linked language: the lines of the blocks come after that of the key `body`
abbrev pub document_at : ℕ → Document → FunctionDocument
document_at n d = record {
  opened = n;
  closed = n + 3 + length d.stack + length d.substitutions + length d.body;
  linked = false;
  name = lines_from (n + 1) (d.name ∷ []);
  stack = lines_from (n + 2) d.stack;
  fixed = [];
  substitutions = lines_from (n + 2 + length d.stack) d.substitutions;
  constants = [];
  twice = [];
  body = lines_from (n + 3 + length d.stack + length d.substitutions) d.body;
}

-- documents as they are read one after the other, the first from line `n`
unfoldable pub documents_at : ℕ → List Document → List FunctionDocument
documents_at n [] = []
documents_at n (d ∷ ds) = document_at n d ∷ documents_at (n + 4 + length d.stack + length d.substitutions + length d.body) ds

-- The text of function documents is read as these documents, without a fault and without metadata.
abbrev pub DocumentsReadBack : Type 0
DocumentsReadBack = (ds : List Document) → All IsDocument ds →
    documents_of false (text_of_lines (flat_map document_lines ds)) ≡ record { meta = []; functions = documents_at 1 ds; bad = None }
