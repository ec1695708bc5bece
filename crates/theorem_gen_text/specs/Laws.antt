-- The statements of the theorems on texts of generated functions.
use Rattle.std.specs.Prelude.{false, ℕ, ◌≤◌, List, [], ◌∷◌, ◌++◌, length, codes, Ok}
use Rattle.std.specs.Fmt.{decimal}
use Rattle.mir_exposure.specs.declared.exposure.Exposure.TheVariants.{Nothing}
use Rattle.read_metadata.specs.Metadata.{metadata_of}
use Rattle.mir_func_printer.specs.FuncText.{func_text}
use Rattle.read_program.specs.declared.program.Program.{Program}
use Rattle.read_program.specs.Program.{ReadsText}
use Rattle.gen_function.specs.Generator.{generated}
use Rattle.gen_text.specs.GeneratedText.{generated_text}
use Rattle.gen_program.specs.Program.{generated_program}
use Rattle.readback_functions.specs.Document.{lines_from}

-- The document of a generated function alone is read as the program of the function, without metadata.
abbrev pub GeneratedDocumentsAreRead : Type 0
GeneratedDocumentsAreRead = (number count : ℕ) → 1 ≤ count → count ≤ 512 →
    ReadsText false (func_text (generated number count) []) (Ok (generated_program number count))

-- ---- with the metadata

-- the line of a variable: its node, and its name of one letter
abbrev pub variable_text : (node letter : ℕ) → List ℕ
variable_text n c = codes "  !" ++ decimal n ++ codes " = !DILocalVariable(name: \"" ++ c ∷ [] ++ codes "\", scope: !2, file: !1, line: 1)"

-- the lines of the metadata: a function, a file, a subprogram, and four variables
abbrev pub metadata_lines : List (List ℕ)
metadata_lines =
    codes "  define void @gen() !dbg !2 { ret void }"
    ∷ codes "  !1 = !DIFile(filename: \"gen.c\", directory: \"/gen\")"
    ∷ codes "  !2 = distinct !DISubprogram(name: \"gen\", file: !1, line: 1)"
    ∷ variable_text 10 97 ∷ variable_text 11 98 ∷ variable_text 12 99 ∷ variable_text 13 100 ∷ []

-- the program whose one function is the generated one, without debug value substitutions, with what these lines say, of which the first is the second of
-- the text
abbrev pub program_of_text : (number blocks : ℕ) → Program
program_of_text number count = record {
  functions = record { func = generated number count; subs = []; pool = []; exposure = Nothing } ∷ [];
  meta = metadata_of (lines_from 2 metadata_lines);
}

-- The text that is generated is read as this program.
abbrev pub GeneratedTextsAreRead : Type 0
GeneratedTextsAreRead = (number count : ℕ) → 1 ≤ count → count ≤ 512 → ReadsText false (generated_text number count) (Ok (program_of_text number count))

-- ---- sizes

-- neither text of a generated function is longer than 2 MiB
pub record AreShort (number count : ℕ) : Type 0 where
  pub document : length (func_text (generated number count) []) ≤ 2097152
  pub text : length (generated_text number count) ≤ 2097152

-- The text that is generated is at most 2 MiB long, and so is its document.
abbrev pub GeneratedTextsAreShort : Type 0
GeneratedTextsAreShort = (number count : ℕ) → count ≤ 512 → AreShort number count
