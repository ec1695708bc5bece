-- A function that is read the same whatever the metadata of its text.
use Rattle.std.specs.Prelude.{◌≡◌, ℕ, Bool, List, [], ◌∷◌, Ok}
use Rattle.read_metadata.specs.Maps.{Maps}
use Rattle.read_declarations.specs.declared.declarations.Declarations.{Declarations}
use Rattle.read_declarations.specs.Declarations.{declarations_of}
use Rattle.read_documents.specs.declared.parts.FunctionDocument.{FunctionDocument}
use Rattle.read_body.specs.declared.body.Body.{Body}
use Rattle.read_program.specs.declared.closing.Parsed.{Parsed}
use Rattle.read_program.specs.BodyLines.{body_of}
use Rattle.read_program.specs.Closing.{Closes, Parses}

-- it is what these declarations and this body close as, for each document that has them
abbrev pub IsReadAnyhow : (linked : Bool) → ℕ → Declarations → Body → Parsed → Type 0
IsReadAnyhow linked line declared body p =
    (meta : Maps) (doc : FunctionDocument) → declarations_of doc ≡ Ok declared → body_of linked meta doc.body ≡ Ok body → Closes linked line declared body (Ok p)

-- this is the only document, and it is read as this function whatever the metadata is
abbrev pub IsOnly : List FunctionDocument → Parsed → Type 0
IsOnly documents p = (document : FunctionDocument) × (documents ≡ document ∷ []) × ((meta : Maps) → Parses meta document (Ok p))
