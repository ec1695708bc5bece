-- The text of a stripped program is read as that program.
use Rattle.std.proofs.Common.{◌≡◌, false, ℕ, ◌+◌, ◌<◌, ◌≤◌, true, List, [], ◌∷◌, ◌++◌, map, length, All, Ok}
use Rattle.std.proofs.Common.{refl, sym, ap, subst, ◌∙◌, arith, append_assoc, append-nil}
use Rattle.std.specs.List.{flat_map, list_all}
use Rattle.std.proofs.lemmas.Bool.{and_parts}
use Rattle.std.proofs.lemmas.Bool.Decides.{nat_tests}
use Rattle.std.proofs.lemmas.List.{length-append}
use Rattle.std.proofs.lemmas.List.Concat.{flat_map-append}
use Rattle.std.proofs.lemmas.List.Elements.{All-nil, All-cons, All-head, All-tail, All-append, All-map, All-weaker}
use Rattle.read_metadata.specs.Maps.{Maps}
use Rattle.read_metadata.specs.Metadata.{metadata_of}
use Rattle.read_documents.specs.declared.parts.Documents.{Documents}
use Rattle.read_documents.specs.Documents.{documents_of}
use Rattle.mir_exposure.specs.declared.exposure.Exposure.TheVariants.{Nothing}
use Rattle.mir_func.specs.Function.{Function}
use Rattle.mir_func.specs.Objects.{HasNoFixed}
use Rattle.mir_func.specs.Strip.{stripped}
use Rattle.mir_func_printer.specs.FuncText.{func_text, linked_func_text}
use Rattle.strip_command.specs.read_program.declared.closing.Parsed.{Parsed}
use Rattle.strip_command.specs.read_program.Program.{MAX_FUNCTIONS, FunctionsFrom, ReadsDocuments, ReadsText}
use Rattle.strip_command.proofs.read_program.Lists.{both}
use Rattle.strip_command.specs.StripText.{stripped_func_text, stripped_text}
use Rattle.readback_functions.specs.Document.{is_printed, IsLine, fed, text_of_lines, Document, document_lines, IsDocument, documents_at}
use Rattle.readback_functions.proofs.Scans.{documents_read_back}
use Rattle.readback_functions.specs.Stripped.{document_of, HasNamesOfBytes, reread}
use Rattle.readback_functions.proofs.Exposed.{function_exposes_nothing, function_has_no_constants, function_has_no_fixed}
use Rattle.readback_functions.proofs.Functions.{functions_read_back}
use Rattle.readback_functions.specs.Bytes.{AreBytes}
use Rattle.readback_functions.proofs.NameDocuments.{DocBytes}
use Rattle.readback_functions.proofs.NameFunctions.{WasRead, program_read, names_are_of_bytes}
use Rattle.readback_strip.specs.Text.{StrippedTextsAreRead}
use Rattle.readback_strip.proofs.Again.{document_again}
use Rattle.readback_strip.proofs.Lines.{function_fed}

-- ---- the functions of the new text

abbrev strip_document : Parsed → Document
strip_document q = document_of (stripped q.func)

abbrev IsGood : Maps → Parsed → Type 0
IsGood meta q = WasRead DocBytes meta q × HasNamesOfBytes q.func

functions_again : (meta again : Maps) (n : ℕ) (before qs : List Parsed) → length before + length qs ≤ MAX_FUNCTIONS → All (IsGood meta) qs →
    FunctionsFrom again before (documents_at n (map strip_document qs)) (Ok (before ++ map reread qs))
unfolding FunctionsFrom documents_at
functions_again meta again n before [] few all = ap (λ (l : List Parsed). Ok l) (append-nil before)
functions_again meta again n before (q ∷ qs) few all =
    let good = All-head (IsGood meta) q qs all in
    let d = strip_document q in
    let next = n + 4 + length d.stack + length d.substitutions + length d.body in
    let rest = functions_again meta again next (before ++ reread q ∷ []) qs (omega (arith, few, length-append before (reread q ∷ [])))
    (All-tail (IsGood meta) q qs all) in (
      (λ le. absurd (omega (arith, le, few))),
      (λ lt. (
        Ok (reread q),
        (functions_read_back meta good.0.doc q good.0.is.plain good.0.parses good.1).parses again n,
        subst (λ (l : List Parsed). FunctionsFrom again (before ++ reread q ∷ []) (documents_at next (map strip_document qs)) (Ok l))
            (append_assoc before (reread q ∷ []) (map reread qs)) rest,
      )),
    )

-- ---- the text

-- a function without constants that exposes nothing is printed as in the other language
plain_text : (f : Function) → linked_func_text f [] [] Nothing ≡ func_text f []
unfolding linked_func_text func_text
plain_text f = refl

no_fixed : (meta : Maps) (q : Parsed) → IsGood meta q → HasNoFixed q.func.objects
no_fixed meta q good = function_has_no_fixed meta good.0.doc q good.0.is.plain good.0.parses

plain_stripped : (meta : Maps) (q : Parsed) → IsGood meta q → func_text (stripped q.func) [] ≡ stripped_func_text q
plain_stripped meta q good =
    sym (plain_text (stripped q.func))
    ∙ (λ i. linked_func_text (stripped q.func) (sym (function_has_no_constants meta good.0.doc q good.0.is.plain good.0.parses) i) []
    (sym (function_exposes_nothing meta good.0.doc q good.0.is.plain good.0.parses) i))

text_is : (meta : Maps) (qs : List Parsed) → All (IsGood meta) qs → text_of_lines (flat_map document_lines (map strip_document qs)) ≡ stripped_text qs
text_is meta [] all = refl
text_is meta (q ∷ qs) all =
    let here = function_fed (stripped q.func) (no_fixed meta q (All-head (IsGood meta) q qs all)) ∙ plain_stripped meta q (All-head (IsGood meta) q qs all) in
    let rest = text_is meta qs (All-tail (IsGood meta) q qs all) in
    flat_map-append fed (document_lines (strip_document q)) (flat_map document_lines (map strip_document qs)) ∙ (λ i. here i ++ rest i)

is_document : (meta : Maps) (q : Parsed) → IsGood meta q → IsDocument (strip_document q)
is_document meta q good = (functions_read_back meta good.0.doc q good.0.is.plain good.0.parses good.1).document

-- ---- bytes

printed_bytes : (text : List ℕ) → list_all is_printed text ≡ true → AreBytes text
printed_bytes [] all = All-nil (λ (b : ℕ). b < 256)
printed_bytes (b ∷ bs) all =
    let parts = and_parts (is_printed b) (list_all is_printed bs) all in
    All-cons (λ (x : ℕ). x < 256) b bs (small b parts.0) (printed_bytes bs parts.1)
  where
    small : (x : ℕ) → is_printed x ≡ true → x < 256
    small x is = grind (arith, nat_tests, is)

lines_bytes : (lines : List (List ℕ)) → All IsLine lines → AreBytes (text_of_lines lines)
lines_bytes [] all = All-nil (λ (b : ℕ). b < 256)
lines_bytes (l ∷ ls) all =
    All-append (λ (b : ℕ). b < 256) (fed l) (text_of_lines ls)
    (All-append (λ (b : ℕ). b < 256) l (10 ∷ []) (printed_bytes l (All-head IsLine l ls all).printed)
    (All-cons (λ (b : ℕ). b < 256) 10 [] (omega arith) (All-nil (λ (b : ℕ). b < 256))))
    (lines_bytes ls (All-tail IsLine l ls all))

functions_bytes : (meta : Maps) (qs : List Parsed) → All (IsGood meta) qs → AreBytes (stripped_text qs)
functions_bytes meta [] all = All-nil (λ (b : ℕ). b < 256)
functions_bytes meta (q ∷ qs) all =
    All-append (λ (b : ℕ). b < 256) (stripped_func_text q) (stripped_text qs)
    (subst AreBytes (function_fed (stripped q.func) (no_fixed meta q (All-head (IsGood meta) q qs all))
    ∙ plain_stripped meta q (All-head (IsGood meta) q qs all))
    (lines_bytes (document_lines (strip_document q)) (is_document meta q (All-head (IsGood meta) q qs all)).printed))
    (functions_bytes meta qs (All-tail (IsGood meta) q qs all))

-- ---- once more

one_same : (meta : Maps) (q : Parsed) → IsGood meta q → stripped_func_text (reread q) ≡ stripped_func_text q
one_same meta q good =
    plain_text (stripped (reread q).func)
    ∙ (sym (function_fed (stripped (reread q).func) (no_fixed meta q good)) ∙ (ap (λ (d : Document). text_of_lines (document_lines d)) (document_again q.func)
    ∙ (function_fed (stripped q.func) (no_fixed meta q good) ∙ plain_stripped meta q good)))

texts_same : (meta : Maps) (qs : List Parsed) → All (IsGood meta) qs → stripped_text (map reread qs) ≡ stripped_text qs
texts_same meta [] all = refl
texts_same meta (q ∷ qs) all =
    let here = one_same meta q (All-head (IsGood meta) q qs all) in
    let rest = texts_same meta qs (All-tail (IsGood meta) q qs all) in
    λ i. here i ++ rest i

-- ---- a program

text_read : (meta : Maps) (fs : List Parsed) → length fs ≤ MAX_FUNCTIONS → All (IsGood meta) fs →
    ReadsText false (stripped_text fs) (Ok (record { functions = map reread fs; meta = metadata_of [] }))
text_read meta fs few all =
    let ds = map strip_document fs in
    let documents = All-map IsDocument strip_document fs (All-weaker (IsGood meta) (λ q. IsDocument (strip_document q)) (is_document meta) fs all) in
    let found = sym (ap (documents_of false) (text_is meta fs all)) ∙ documents_read_back ds documents in
    subst (λ (x : Documents). ReadsDocuments x (Ok (record { functions = map reread fs; meta = metadata_of [] }))) (sym found)
    (Ok (map reread fs), functions_again meta (metadata_of []) 1 [] fs (omega (arith, few)) all, refl)

pub stripped_texts_are_read : StrippedTextsAreRead
stripped_texts_are_read text p bytes reads =
    let meta = metadata_of (documents_of false text).meta in
    let read = program_read text p bytes reads in
    let all = both (WasRead DocBytes meta) (λ (q : Parsed). HasNamesOfBytes q.func) p.functions read.1 (names_are_of_bytes text p bytes reads) in
    record { bytes = functions_bytes meta p.functions all; reads = text_read meta p.functions read.0 all; same = texts_same meta p.functions all }
