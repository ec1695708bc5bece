-- The program in a text.
use Rattle.std.specs.Prelude.{◌≡◌, ℕ, Bool, ◌<◌, ◌≤◌, List, [], ◌∷◌, ◌++◌, length, Option, Some, None, Result, Ok, Err}
use Rattle.read_refusal.specs.declared.kind.RefusalKind.TheVariants.{TooMany, BadDocument}
use Rattle.read_metadata.specs.Maps.{Maps}
use Rattle.read_metadata.specs.Metadata.{metadata_of}
use Rattle.read_documents.specs.declared.parts.FunctionDocument.{FunctionDocument}
use Rattle.read_documents.specs.declared.parts.Documents.{Documents}
use Rattle.read_documents.specs.Documents.{documents_of}
use Rattle.read_program.specs.declared.closing.Parsed.{Parsed}
use Rattle.read_program.specs.declared.program.Program.{Program}
use Rattle.read_program.specs.declared.error.ParseError.{ParseError}
use Rattle.read_program.specs.declared.error.ParseError.TheVariants as errors
use Rattle.read_program.specs.Closing.{Parses}

-- the greatest number of functions in a text
abbrev pub MAX_FUNCTIONS : ℕ
MAX_FUNCTIONS = 256

-- how reading continues after a document: with the further documents, if it was parsed, and else it ends in its error
abbrev pub Goes : Result Parsed ParseError → (Parsed → Type 0) → Result (List Parsed) ParseError → Type 0
Goes (Ok p) more answer = more p
Goes (Err e) more answer = answer ≡ Err e

-- the refusal of a function above the limit, at the line that opens it
abbrev pub too_many : FunctionDocument → Result (List Parsed) ParseError
too_many d = Err (errors.Refused (record { line = d.opened; kind = TooMany }))

-- The functions of documents in order, after the functions `fs` that were read: the first document that is refused ends reading.
unfoldable pub FunctionsFrom : Maps → List Parsed → List FunctionDocument → Result (List Parsed) ParseError → Type 0
FunctionsFrom meta fs [] answer = answer ≡ Ok fs
FunctionsFrom meta fs (d ∷ ds) answer =
    (MAX_FUNCTIONS ≤ length fs → answer ≡ too_many d)
    × (length fs < MAX_FUNCTIONS → (read : Result Parsed ParseError) × Parses meta d read
    × Goes read (λ (p : Parsed). FunctionsFrom meta (fs ++ p ∷ []) ds answer) answer)

-- The program with these functions and this metadata. If the text is no sequence of documents, it is refused at the first line where it isn't one; each
-- function's document ends before that line.
abbrev pub program_of : Maps → Option ℕ → Result (List Parsed) ParseError → Result Program ParseError
program_of meta bad (Err e) = Err e
program_of meta None (Ok fs) = Ok (record { functions = fs; meta = meta })
program_of meta (Some line) (Ok fs) = Err (errors.Refused (record { line = line; kind = BadDocument }))

-- the program in these documents, or the first refusal
abbrev pub ReadsDocuments : Documents → Result Program ParseError → Type 0
ReadsDocuments docs answer =
    (functions : Result (List Parsed) ParseError) × FunctionsFrom (metadata_of docs.meta) [] docs.functions functions
    × (answer ≡ program_of (metadata_of docs.meta) docs.bad functions)

-- a statement on an answer, required only if memory didn't run out
abbrev pub UnlessMemory : {X : Type 0} → Result X ParseError → Type 0 → Type 0
UnlessMemory (Ok x) said = said
UnlessMemory (Err errors.Memory) said = Unit {0}
UnlessMemory (Err (errors.Refused r)) said = said

-- the program in a text, or the text's first refusal; `linked` is whether the linked language is read
abbrev pub ReadsText : (linked : Bool) → List ℕ → Result Program ParseError → Type 0
ReadsText linked text answer = ReadsDocuments (documents_of linked text) answer
