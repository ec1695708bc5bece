-- What a reader has read of a text whose front it was given.
use Rattle.std.specs.Prelude.{◌≡◌, ◌==◌, ℕ, ◌+◌, Bool, true, false, ◌||◌, List, [], ◌++◌, Option, None, Some, is_some, Result, Ok, Err, All}
use Rattle.std.specs.Str.Lines.{lines}
use Rattle.read_refusal.specs.declared.first.Refusal.{Refusal}
use Rattle.read_lexer.specs.declared.line.Line.{Line}
use Rattle.read_metadata.specs.Maps.{Maps}
use Rattle.read_metadata.specs.Metadata.{metadata_of}
use Rattle.read_documents.specs.declared.parts.FunctionDocument.{FunctionDocument}
use Rattle.read_documents.specs.declared.parts.Documents.{Documents}
use Rattle.read_documents.specs.declared.scan.Scan.{Scan}
use Rattle.read_documents.specs.Documents.{documents_of}
use Rattle.read_documents.specs.Lines.{numbered}
use Rattle.read_documents.specs.steps.Scan.{scan, found}
use Rattle.read_program.specs.declared.closing.Parsed.{Parsed}
use Rattle.read_program.specs.declared.error.ParseError.TheVariants as errors
use Rattle.read_program.specs.Program.{FunctionsFrom, ReadsDocuments}
use Rattle.read_program.specs.declared.program.Program.{Program}
use Rattle.read_program.specs.declared.error.ParseError.{ParseError}
use Rattle.read_input.specs.declared.partial.PartialProgram.{PartialProgram}
use Rattle.read_input.specs.declared.reader.ProgramReader.{ProgramReader}

-- the scan with the lines of the block and the functions that a reader no longer holds
abbrev pub scan_of : Scan → List Line → List FunctionDocument → Scan
scan_of s block done = record s { meta = block; functions = done ++ s.functions }

-- What is no longer held. Before the block has closed that is documents that were read as these functions whatever the metadata is; behind it the lines of
-- the block, which say this metadata, and the documents that were read as these functions.
abbrev pub IsReadAs : Scan → Option Maps → List Parsed → (block : List Line) → (done : List FunctionDocument) → Type 0
IsReadAs s None functions block done = (block ≡ s.meta) × ((meta : Maps) → FunctionsFrom meta [] done (Ok functions))
IsReadAs s (Some meta) functions block done =
    (meta ≡ metadata_of block) × (s.had_block ≡ true) × (s.in_block ≡ false) × FunctionsFrom meta [] done (Ok functions)

-- before these lines of a text with these documents: their first refusal is known, or the scan goes on
pub data Knows (r : PartialProgram) (documents : Documents) (ahead : List (List ℕ)) : Type 0 where
  is_refused : (refusal : Refusal) → r.refused ≡ Some refusal → ReadsDocuments documents (Err (errors.Refused refusal)) → Knows r documents ahead
  goes_on : (block : List Line) (done : List FunctionDocument) → r.refused ≡ None → IsReadAs r.scan r.meta r.functions block done →
      documents ≡ scan (scan_of r.scan block done) r.lines (numbered (r.lines + 1) ahead) → Knows r documents ahead

-- a reader was given this front of a text in a language, whatever follows
pub record IsReadingOf (linked : Bool) (r : ProgramReader) (front : List ℕ) : Type 0 where
  pub one_line : All (λ b. (b == 10) ≡ false) r.line
  pub knows : (future : List ℕ) → Knows r.program (documents_of linked (front ++ future)) (lines (r.line ++ future))

-- what reading documents ends in: these functions, or a refusal
abbrev pub outcome : List Parsed → Option Refusal → Result (List Parsed) ParseError
outcome functions None = Ok functions
outcome functions (Some refusal) = Err (errors.Refused refusal)

-- all that waited was read
abbrev pub HasReadAll : (old new : PartialProgram) → Type 0
HasReadAll old new =
    (block : List Line) (done : List FunctionDocument) → IsReadAs old.scan old.meta old.functions block done →
    (new.meta ≡ Some (metadata_of block)) × (new.scan ≡ record old.scan { meta = []; functions = [] })
    × FunctionsFrom (metadata_of block) [] (done ++ old.scan.functions) (outcome new.functions new.refused)

-- the first refusal of the documents up to a line where the text is no sequence of documents
abbrev pub Stops : (old : PartialProgram) → (bad : ℕ) → Option Refusal → Type 0
Stops old bad refused =
    (block : List Line) (done : List FunctionDocument) → IsReadAs old.scan old.meta old.functions block done →
    (refusal : Refusal) × (refused ≡ Some refusal)
    × ReadsDocuments (found (scan_of old.scan block done) (Some bad)) (Err (errors.Refused refusal))

-- the answer of these functions and this metadata, or of a refusal
abbrev pub AnswersAs : List Parsed → Option Maps → Option Refusal → Result Program ParseError → Type 0
AnswersAs functions meta (Some refusal) answer = answer ≡ Err (errors.Refused refusal)
AnswersAs functions (Some meta) None answer = answer ≡ Ok (record { functions = functions; meta = meta })
AnswersAs functions None None answer = ⊥

-- there is an answer
abbrev pub IsSettled : PartialProgram → Type 0
IsSettled r = (is_some r.meta || is_some r.refused) ≡ true

-- the answer for these documents
abbrev pub Ends : PartialProgram → Documents → Type 0
Ends r documents = (answer : Result Program ParseError) × AnswersAs r.functions r.meta r.refused answer × ReadsDocuments documents answer
