-- The printed text of a function that was read, and how it parses.
use Rattle.std.specs.Prelude.{◌≡◌, false, ℕ, List, [], ◌∷◌, All, None, Ok}
use Rattle.read_metadata.specs.Maps.{Maps}
use Rattle.read_documents.specs.declared.parts.FunctionDocument.{FunctionDocument}
use Rattle.read_documents.specs.Documents.{documents_of}
use Rattle.read_program.specs.declared.closing.Parsed.{Parsed}
use Rattle.read_program.specs.declared.program.Program.{Program}
use Rattle.read_program.specs.Closing.{Parses}
use Rattle.read_program.specs.Program.{ReadsText}
use Rattle.mir_func_printer.specs.FuncText.{func_text}
use Rattle.readback_functions.specs.Bytes.{AreBytes}

-- The text of the function and its substitutions is one document, which parses to the function and its substitutions, given the metadata.
pub record IsReadAsPrinted (meta : Maps) (p : Parsed) : Type 0 where
  pub document : FunctionDocument
  pub found : documents_of false (func_text p.func p.subs) ≡ record { meta = []; functions = document ∷ []; bad = None }
  pub reads : Parses meta document (Ok p)

-- This holds for every function of a program that some text parses to, but not in the linked language, with the program's metadata.
abbrev pub PrintedFunctionsAreRead : Type 0
PrintedFunctionsAreRead = (text : List ℕ) (p : Program) → AreBytes text → ReadsText false text (Ok p) → All (IsReadAsPrinted p.meta) p.functions
