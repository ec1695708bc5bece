-- The document of a generated function is read as its program, alone and behind the metadata.
use Rattle.std.proofs.Common.{◌≡◌, false, ℕ, ◌≤◌, [], ◌∷◌, ◌++◌, List, None, Ok, refl, sym, ap, ◌∙◌, subst, arith}
use Rattle.std.proofs.lemmas.List.Elements.{All-nil}
use Rattle.mir_exposure.specs.declared.exposure.Exposure.TheVariants.{Nothing}
use Rattle.mir_func.specs.declared.object.Object.{Object}
use Rattle.mir_func.specs.Objects.{HasNoFixed}
use Rattle.read_metadata.specs.Maps.{Maps}
use Rattle.read_metadata.specs.Metadata.{metadata_of}
use Rattle.read_documents.specs.declared.parts.Documents.{Documents}
use Rattle.read_documents.specs.Documents.{documents_of}
use Rattle.read_program.specs.Program.{FunctionsFrom, ReadsDocuments}
use Rattle.read_proof.specs.Read.{EntryIsLimited}
use Rattle.gen_function.specs.Generator.{generated}
use Rattle.gen_text.specs.GeneratedText.{generated_text, metadata_text}
use Rattle.gen_program.specs.Program.{generated_program}
use Rattle.readback_functions.specs.Document.{text_of_lines, document_lines, lines_from, IsDocument, document_at}
use Rattle.theorem_print_read_back.proofs.Functions.{found_alone}
use Rattle.theorem_print_read_back.proofs.Texts.{document_of, document_is, function_fed}
use Rattle.theorem_gen_text.specs.Laws.{metadata_lines, program_of_text, GeneratedDocumentsAreRead, GeneratedTextsAreRead}
use Rattle.theorem_gen_text.proofs.Blocks.{documents_behind}
use Rattle.theorem_gen_text.proofs.Metadata.{block_fed, lines_print, lines_go_on}
use Rattle.theorem_gen_text.proofs.Functions.{function_read, all_writable, small_ids, all_entries_small, name_bytes}

-- the one function of documents is read
one_read : (meta : Maps) (number count n : ℕ) → 1 ≤ count → count ≤ 512 →
    FunctionsFrom meta [] (document_at n (document_of (generated number count) []) ∷ [])
    (Ok (record { func = generated number count; subs = []; pool = []; exposure = Nothing } ∷ []))
unfolding FunctionsFrom
one_read meta number count n some few = (
  (λ le. absurd (omega (arith, le))),
  (λ lt. (Ok (record { func = generated number count; subs = []; pool = []; exposure = Nothing }), function_read meta number count some few n, refl)),
)

-- it has no objects
no_fixed : (number count : ℕ) → HasNoFixed (generated number count).objects
no_fixed number count = All-nil (λ (o : Object). o.fixed_offset ≡ None)

-- the document is one
is_one : (meta : Maps) (number count : ℕ) → 1 ≤ count → count ≤ 512 → IsDocument (document_of (generated number count) [])
is_one meta number count some few =
    document_is (generated number count) [] name_bytes (all_entries_small meta number count some few 1) (All-nil EntryIsLimited)
    (small_ids meta number count some few 1) (all_writable meta number count some few 1)

pub generated_documents_are_read : GeneratedDocumentsAreRead
generated_documents_are_read number count some few =
    let f = generated number count in
    let d = document_of f [] in
    let meta = metadata_of [] in
    let found = ap (documents_of false) (sym (function_fed f [] (no_fixed number count))) ∙ found_alone d (is_one meta number count some few) in
    subst (λ (x : Documents). ReadsDocuments x (Ok (generated_program number count))) (sym found)
    (Ok (record { func = f; subs = []; pool = []; exposure = Nothing } ∷ []), one_read meta number count 1 some few, refl)

-- ---- behind the metadata

pub generated_texts_are_read : GeneratedTextsAreRead
generated_texts_are_read number count some few =
    let f = generated number count in
    let d = document_of f [] in
    let meta = metadata_of (lines_from 2 metadata_lines) in
    let text : generated_text number count ≡ metadata_text ++ text_of_lines (document_lines d) =
    ap (λ (l : List ℕ). metadata_text ++ l) (sym (function_fed f [] (no_fixed number count))) in
    let found = ap (documents_of false) (text ∙ block_fed (document_lines d))
    ∙ documents_behind metadata_lines d (is_one meta number count some few) lines_print lines_go_on refl in
    subst (λ (x : Documents). ReadsDocuments x (Ok (program_of_text number count))) (sym found)
    (Ok (record { func = f; subs = []; pool = []; exposure = Nothing } ∷ []), one_read meta number count 10 some few, refl)
