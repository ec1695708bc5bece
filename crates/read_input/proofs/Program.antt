-- What a program that was read in part knows of its documents, from line to line.
use Rattle.std.proofs.Common.{◌≡◌, ◌==◌, ℕ, ◌+◌, ◌<◌, Bool, true, false, List, [], ◌∷◌, ◌++◌, length, Option, Some, None, Result, Ok, Err, All, refl}
use Rattle.std.proofs.Common.{sym, ap, get_or, subst, ◌∙◌, arith}
use Rattle.std.specs.Prelude.{is_some, unwrap_or}
use Rattle.std.specs.Str.Lines.{lines}
use Rattle.std.proofs.lemmas.List.{append-nil, nil_from_length}
use Rattle.read_refusal.specs.declared.first.Refusal.{Refusal}
use Rattle.read_refusal.specs.declared.kind.RefusalKind.TheVariants.{BadDocument}
use Rattle.read_lexer.specs.declared.line.Line.{Line}
use Rattle.read_metadata.specs.Maps.{Maps}
use Rattle.read_metadata.specs.Metadata.{metadata_of}
use Rattle.read_documents.specs.declared.parts.FunctionDocument.{FunctionDocument}
use Rattle.read_documents.specs.declared.parts.Documents.{Documents}
use Rattle.read_documents.specs.declared.scan.Scan.{Scan}
use Rattle.read_documents.specs.Documents.{documents_of}
use Rattle.read_documents.specs.Lines.{numbered}
use Rattle.read_documents.specs.steps.Scan.{scan, step, fault, fault_at_end, found}
use Rattle.read_program.specs.declared.closing.Parsed.{Parsed}
use Rattle.read_program.specs.declared.error.ParseError.TheVariants as errors
use Rattle.read_program.specs.declared.program.Program.{Program}
use Rattle.read_program.specs.declared.error.ParseError.{ParseError}
use Rattle.read_program.specs.Closing.{Parses}
use Rattle.read_program.specs.Program.{MAX_FUNCTIONS, FunctionsFrom, ReadsDocuments, ReadsText, UnlessMemory}
use Rattle.read_program.proofs.Functions.{FunctionsFrom-append, FunctionsFrom-refused}
use Rattle.read_input.specs.declared.partial.PartialProgram.{PartialProgram}
use Rattle.read_input.specs.Unmarked.{IsOnly}
use Rattle.read_input.specs.Reading.{Knows, is_refused, goes_on, scan_of, IsReadAs, outcome, HasReadAll, Stops, Ends, AnswersAs}
use Rattle.read_input.proofs.Lines.{lines-open}
use Rattle.read_input.proofs.Scan.{next, step-stays, scan-begins, scan-stops, scan_of-takes, scan_behind-takes, scan_of-ends}

-- documents that begin with some of which one is refused
reads-refused : (block : List Line) (done : List FunctionDocument) (r : Refusal) (documents : Documents) →
    FunctionsFrom (metadata_of block) [] done (Err (errors.Refused r)) → documents.meta ≡ block → (more : List FunctionDocument) →
    documents.functions ≡ done ++ more → ReadsDocuments documents (Err (errors.Refused r))
reads-refused block done r documents refused same more begins =
    let answer : Result (List Parsed) ParseError = Err (errors.Refused r) in
    let all = FunctionsFrom-refused (metadata_of block) done more [] (errors.Refused r) refused in
    let functions : FunctionsFrom (metadata_of documents.meta) [] documents.functions answer =
    subst (λ (m : List Line). FunctionsFrom (metadata_of m) [] documents.functions answer) (sym same)
    (subst (λ (fs : List FunctionDocument). FunctionsFrom (metadata_of block) [] fs answer) (sym begins) all) in
    (answer, functions, refl)

-- ---- a line that is no fault

-- behind it the same is no longer held
record IsTaken (s : Scan) (meta : Option Maps) (functions : List Parsed) (done : List FunctionDocument) (n : ℕ) (behind : List (List ℕ)) (documents : Documents)
    : Type 0 where
  block : List Line
  read : IsReadAs s meta functions block done
  scanned : documents ≡ scan (scan_of s block done) n (numbered (n + 1) behind)

module _ (s : Scan) (functions : List Parsed) (block : List Line) (done : List FunctionDocument) (n : ℕ) (text : List ℕ) (behind : List (List ℕ))
    (documents : Documents) (scanned : documents ≡ scan (scan_of s block done) n (numbered (n + 1) (text ∷ behind)))
    (clean : fault s (next n text) ≡ None) where
  is_taken : (meta : Option Maps) → IsReadAs s meta functions block done → IsTaken (step s (next n text)) meta functions done (n + 1) behind documents
  is_taken None (held, read) =
      let t = step s (next n text) in
      record {
        block = t.meta;
        read = (refl, read);
        scanned = scanned ∙ ap (λ (b : List Line). scan (scan_of s b done) n (numbered (n + 1) (text ∷ behind))) held
            ∙ scan_behind-takes s done n text behind clean;
      }
  is_taken (Some meta) (is, had, out, read) =
      let stays = step-stays s (next n text) had out clean in
      record {
        block = block;
        read = (is, stays.had_block, stays.in_block, read);
        scanned = scanned ∙ scan_of-takes s block done n text behind out clean;
      }

-- the program with one line more, and this scan behind it
abbrev pub with_line : PartialProgram → Scan → PartialProgram
with_line r s = record r { lines = r.lines + 1; scan = s }

line_known : (r : PartialProgram) (text : List ℕ) (documents : Documents) (behind : List (List ℕ)) → r.refused ≡ None →
    fault r.scan (next r.lines text) ≡ None → Knows r documents (text ∷ behind) →
    Knows (with_line r (step r.scan (next r.lines text))) documents behind
line_known r text documents behind unrefused clean (is_refused refusal same answer) = is_refused refusal same answer
line_known r text documents behind unrefused clean (goes_on block done none read scanned) =
    let taken = is_taken r.scan r.functions block done r.lines text behind documents scanned clean r.meta read in
    goes_on taken.block done none taken.read taken.scanned

pub knows-line : (r : PartialProgram) (s : Scan) (text : List ℕ) (documents : Documents) (behind : List (List ℕ)) → r.refused ≡ None →
    fault r.scan (next r.lines text) ≡ None → s ≡ step r.scan (next r.lines text) → Knows r documents (text ∷ behind) →
    Knows (with_line r s) documents behind
knows-line r s text documents behind unrefused clean is known =
    subst (λ (t : Scan). Knows (with_line r t) documents behind) (sym is) (line_known r text documents behind unrefused clean known)

-- ---- all that waited was read

metadata_known : (s : Scan) (meta : Option Maps) (functions : List Parsed) (block : List Line) (done : List FunctionDocument) →
    IsReadAs s meta functions block done → unwrap_or meta (metadata_of s.meta) ≡ metadata_of block
metadata_known s None functions block done (held, read) = ap metadata_of (sym held)
metadata_known s (Some meta) functions block done (is, had, out, read) = is

functions_known : (s : Scan) (meta : Option Maps) (functions : List Parsed) (block : List Line) (done : List FunctionDocument) →
    IsReadAs s meta functions block done → FunctionsFrom (metadata_of block) [] done (Ok functions)
functions_known s None functions block done (held, read) = read (metadata_of block)
functions_known s (Some meta) functions block done (is, had, out, read) = subst (λ (m : Maps). FunctionsFrom m [] done (Ok functions)) is read

-- a scan whose lines of the block and whose functions were taken out
pub emptied : (s : Scan) (block : List Line) (functions : List FunctionDocument) → block ≡ [] → functions ≡ [] →
    record s { meta = block; functions = functions } ≡ record s { meta = []; functions = [] }
emptied s block functions no_lines no_functions = λ i. record s { meta = no_lines i; functions = no_functions i }

module _ (t u : PartialProgram) (meta : Maps) (known : Option Maps) (waiting : List FunctionDocument) (before : List Parsed) where
  pub has_read_all : known ≡ t.meta → waiting ≡ t.scan.functions → before ≡ t.functions → meta ≡ unwrap_or known (metadata_of t.scan.meta) →
      u.meta ≡ Some meta → u.scan ≡ record t.scan { meta = []; functions = [] } → FunctionsFrom meta before waiting (outcome u.functions u.refused) →
      HasReadAll t u
  has_read_all same_meta same_waiting same_before is has scan_is more = λ block done read.
      let same : meta ≡ metadata_of block =
      is ∙ ap (λ (m : Option Maps). unwrap_or m (metadata_of t.scan.meta)) same_meta ∙ metadata_known t.scan t.meta t.functions block done read in
      let front = functions_known t.scan t.meta t.functions block done read in
      let answer = outcome u.functions u.refused in
      let behind : FunctionsFrom (metadata_of block) t.functions t.scan.functions answer =
      subst (λ (m : Maps). FunctionsFrom m t.functions t.scan.functions answer) same
      (subst (λ (ds : List FunctionDocument). FunctionsFrom meta t.functions ds answer) same_waiting
      (subst (λ (fs : List Parsed). FunctionsFrom meta fs waiting answer) same_before more)) in (
        has ∙ ap Some same,
        scan_is,
        FunctionsFrom-append (metadata_of block) done t.scan.functions [] t.functions answer front behind,
      )

module _ (t u : PartialProgram) (all : HasReadAll t u) (unrefused : t.refused ≡ None) where
  module _ (same_lines : u.lines ≡ t.lines) (had : t.scan.had_block ≡ true) (out : t.scan.in_block ≡ false) (documents : Documents)
      (behind : List (List ℕ)) (block : List Line) (done : List FunctionDocument)
      (scanned : documents ≡ scan (scan_of t.scan block done) t.lines (numbered (t.lines + 1) behind)) (has : u.meta ≡ Some (metadata_of block))
      (scan_is : u.scan ≡ record t.scan { meta = []; functions = [] }) where
    settled : (refused : Option Refusal) → u.refused ≡ refused → FunctionsFrom (metadata_of block) [] (done ++ t.scan.functions) (outcome u.functions refused) →
        Knows u documents behind
    settled None is read =
        let fs = done ++ t.scan.functions in
        let kept : IsReadAs u.scan u.meta u.functions block fs =
        subst (λ (m : Option Maps). IsReadAs u.scan m u.functions block fs) (sym has)
        (subst (λ (s : Scan). IsReadAs s (Some (metadata_of block)) u.functions block fs) (sym scan_is) (refl, had, out, read)) in
        let same : scan_of t.scan block done ≡ scan_of u.scan block fs =
        (λ i. record t.scan { meta = block; functions = sym (append-nil fs) i }) ∙ ap (λ (s : Scan). scan_of s block fs) (sym scan_is) in
        let count = sym same_lines in
        goes_on block fs is kept (scanned ∙ (λ i. scan (same i) (count i) (numbered (count i + 1) behind)))
    settled (Some r) is refused =
        let begins = scan-begins (scan_of t.scan block done) t.lines (numbered (t.lines + 1) behind) had out in
        is_refused r is (reads-refused block (done ++ t.scan.functions) r documents refused (ap (λ (d : Documents). d.meta) scanned ∙ begins.meta) begins.more
        (ap (λ (d : Documents). d.functions) scanned ∙ begins.functions))

  -- behind the block
  pub knows-all : u.lines ≡ t.lines → t.scan.had_block ≡ true → t.scan.in_block ≡ false → (documents : Documents) (behind : List (List ℕ)) →
      Knows t documents behind → Knows u documents behind
  knows-all same_lines had out documents behind (is_refused refusal same answer) =
      let wrong : Some refusal ≡ None = sym same ∙ unrefused in absurd cc
  knows-all same_lines had out documents behind (goes_on block done none read scanned) =
      let here = all block done read in
      settled same_lines had out documents behind block done scanned here.0 here.1 u.refused refl here.2

  module _ (documents : Documents) (block : List Line) (done : List FunctionDocument)
      (scanned : documents ≡ found (scan_of t.scan block done) None) (has : u.meta ≡ Some (metadata_of block)) where
    ended : (refused : Option Refusal) → u.refused ≡ refused → FunctionsFrom (metadata_of block) [] (done ++ t.scan.functions) (outcome u.functions refused) →
        Ends u documents
    ended None is read =
        let whole : Program = record { functions = u.functions; meta = metadata_of block } in
        let reads : ReadsDocuments documents (Ok whole) =
        subst (λ (d : Documents). ReadsDocuments d (Ok whole)) (sym scanned) (Ok u.functions, read, refl) in
        (Ok whole, rw (is, has) refl, reads)
    ended (Some r) is refused =
        let reads : ReadsDocuments documents (Err (errors.Refused r)) =
        reads-refused block (done ++ t.scan.functions) r documents refused (ap (λ (d : Documents). d.meta) scanned) [] (ap (λ (d : Documents). d.functions)
        scanned ∙ sym (append-nil (done ++ t.scan.functions))) in
        (Err (errors.Refused r), rw is refl, reads)

  -- at the end
  pub ends-all : fault_at_end t.scan t.scan.function t.lines ≡ None → (documents : Documents) → Knows t documents [] → Ends u documents
  ends-all clean documents (is_refused refusal same answer) = let wrong : Some refusal ≡ None = sym same ∙ unrefused in absurd cc
  ends-all clean documents (goes_on block done none read scanned) =
      let here = all block done read in
      let at_end = scanned ∙ scan_of-ends t.scan block done t.lines ∙ ap (found (scan_of t.scan block done)) clean in
      ended documents block done at_end here.0 u.refused refl here.2

-- ---- a function that waited alone was read

module _ (d : FunctionDocument) (p : Parsed) (parses : (meta : Maps) → Parses meta d (Ok p)) (functions : List Parsed) (few : length functions < MAX_FUNCTIONS)
  where
    one_read : (meta : Maps) → FunctionsFrom meta functions (d ∷ []) (Ok (functions ++ p ∷ []))
    unfolding FunctionsFrom
    one_read meta = ((λ full. absurd (omega (arith, full, few))), (λ l. (Ok p, parses meta, refl)))

    read_behind : (meta : Maps) (done : List FunctionDocument) → FunctionsFrom meta [] done (Ok functions) →
        FunctionsFrom meta [] (done ++ d ∷ []) (Ok (functions ++ p ∷ []))
    read_behind meta done read = FunctionsFrom-append meta done (d ∷ []) [] functions (Ok (functions ++ p ∷ [])) read (one_read meta)

    -- nothing else is no longer held
    read_as : (s : Scan) (meta : Option Maps) (block : List Line) (done : List FunctionDocument) → IsReadAs s meta functions block done →
        IsReadAs (record s { functions = [] }) meta (functions ++ p ∷ []) block (done ++ d ∷ [])
    read_as s None block done (held, read) = (held, λ meta. read_behind meta done (read meta))
    read_as s (Some meta) block done (is, had, out, read) = (is, had, out, read_behind meta done read)

-- the program that holds these documents, and read these functions
abbrev pub with_early : PartialProgram → List FunctionDocument → List Parsed → PartialProgram
with_early r waiting functions = record r { scan = record r.scan { functions = waiting }; functions = functions }

module _ (r : PartialProgram) (p : Parsed) (unrefused : r.refused ≡ None) (few : length r.functions < MAX_FUNCTIONS) where
  early_known : IsOnly r.scan.functions p → (documents : Documents) (behind : List (List ℕ)) → Knows r documents behind →
      Knows (with_early r [] (r.functions ++ p ∷ [])) documents behind
  early_known only documents behind (is_refused refusal same answer) =
      let wrong : Some refusal ≡ None = sym same ∙ unrefused in absurd cc
  early_known (d, one, parses) documents behind (goes_on block done none read scanned) =
      let all : done ++ r.scan.functions ≡ (done ++ d ∷ []) ++ [] =
      ap (λ (ds : List FunctionDocument). done ++ ds) one ∙ sym (append-nil (done ++ d ∷ [])) in
      goes_on block (done ++ d ∷ []) none (read_as d p parses r.functions few r.scan r.meta block done read) (scanned ∙ (λ i. scan (record r.scan {
        meta = block;
        functions = all i;
      }) r.lines (numbered (r.lines + 1) behind)))

  pub knows-early : (waiting : List FunctionDocument) (functions : List Parsed) → waiting ≡ [] → functions ≡ r.functions ++ p ∷ [] →
      IsOnly r.scan.functions p → (documents : Documents) (behind : List (List ℕ)) → Knows r documents behind →
      Knows (with_early r waiting functions) documents behind
  knows-early waiting functions none more only documents behind known =
      subst (λ (ds : List FunctionDocument). Knows (with_early r ds functions) documents behind) (sym none)
      (subst (λ (fs : List Parsed). Knows (with_early r [] fs) documents behind) (sym more) (early_known only documents behind known))

-- a list of one document
pub only_one : (ds : List FunctionDocument) (d : FunctionDocument) → length ds ≡ 1 → d ≡ get_or ds 0 d → ds ≡ d ∷ []
only_one [] d long is = absurd (omega (arith, long))
only_one (x ∷ []) d long is = ap (λ (e : FunctionDocument). e ∷ []) (sym is)
only_one (x ∷ y ∷ rest) d long is = absurd (omega (arith, long))

-- ---- a line where the text is no sequence of documents

-- its refusal
abbrev pub bad_document : ℕ → Refusal
bad_document line = record { line = line; kind = BadDocument }

module _ (t u : PartialProgram) (all : HasReadAll t u) (bad : ℕ) where
  first : (block : List Line) (done : List FunctionDocument) (refused : Option Refusal) →
      FunctionsFrom (metadata_of block) [] (done ++ t.scan.functions) (outcome u.functions refused) →
      ReadsDocuments (found (scan_of t.scan block done) (Some bad)) (Err (errors.Refused (unwrap_or refused (bad_document bad))))
  first block done None read = (Ok u.functions, read, refl)
  first block done (Some r) refused =
      reads-refused block (done ++ t.scan.functions) r (found (scan_of t.scan block done) (Some bad)) refused refl [] (sym (append-nil (done ++
      t.scan.functions)))

  -- a function that waited and is refused comes before it
  pub stops-at : (refused : Option Refusal) → refused ≡ Some (unwrap_or u.refused (bad_document bad)) → Stops t bad refused
  stops-at refused is = λ block done read. (unwrap_or u.refused (bad_document bad), is, first block done u.refused (all block done read).2)

module _ (r u : PartialProgram) (bad : ℕ) (unrefused : r.refused ≡ None) where
  -- the line is the next one
  pub knows-stop : (text : List ℕ) → fault r.scan (next r.lines text) ≡ Some bad → Stops r bad u.refused → (documents : Documents) (behind : List (List ℕ)) →
      Knows r documents (text ∷ behind) → Knows u documents behind
  knows-stop text is stops documents behind (is_refused refusal at answer) = let wrong : Some refusal ≡ None = sym at ∙ unrefused in absurd cc
  knows-stop text is stops documents behind (goes_on block done none read scanned) =
      let here = stops block done read in
      is_refused here.0 here.1 (subst (λ (d : Documents). ReadsDocuments d (Err (errors.Refused here.0))) (sym (scanned ∙ scan-stops r.scan block done r.lines
      text behind bad is)) here.2)

  -- the text ends there
  pub ends-stop : fault_at_end r.scan r.scan.function r.lines ≡ Some bad → Stops r bad u.refused → (documents : Documents) → Knows r documents [] →
      Ends u documents
  ends-stop is stops documents (is_refused refusal at answer) = let wrong : Some refusal ≡ None = sym at ∙ unrefused in absurd cc
  ends-stop is stops documents (goes_on block done none read scanned) =
      let here = stops block done read in
      let at_end = scanned ∙ scan_of-ends r.scan block done r.lines ∙ ap (found (scan_of r.scan block done)) is in
      (Err (errors.Refused here.0), rw here.1 refl, subst (λ (d : Documents). ReadsDocuments d (Err (errors.Refused here.0))) (sym at_end) here.2)

-- the bytes behind the last LF, if there are none
pub knows-empty : (r : PartialProgram) (line : List ℕ) (documents : Documents) → length line ≡ 0 → Knows r documents (lines line) → Knows r documents []
knows-empty r line documents empty known = subst (λ (text : List ℕ). Knows r documents (lines text)) (nil_from_length line empty) known

-- the same, if there are some
pub knows-open : (r : PartialProgram) (line : List ℕ) (documents : Documents) → (length line ≡ 0 → ⊥) → All (λ (b : ℕ). (b == 10) ≡ false) line →
    Knows r documents (lines line) → Knows r documents (line ∷ [])
knows-open r line documents some none known =
    let more : 0 < length line = omega (arith, some) in
    subst (λ (ls : List (List ℕ)). Knows r documents ls) (lines-open line more none) known

-- ---- where a line was refused

pub knows-refused : (r : PartialProgram) (documents : Documents) (ahead others : List (List ℕ)) → is_some r.refused ≡ true → Knows r documents ahead →
    Knows r documents others
knows-refused r documents ahead others is (is_refused refusal same answer) = is_refused refusal same answer
knows-refused r documents ahead others is (goes_on block done none read scanned) =
    let wrong : false ≡ true = ap is_some (sym none) ∙ is in absurd cc

pub ends-refused : (r : PartialProgram) (documents : Documents) (ahead : List (List ℕ)) → is_some r.refused ≡ true → Knows r documents ahead → Ends r documents
ends-refused r documents ahead is (is_refused refusal same answer) = (Err (errors.Refused refusal), rw same refl, answer)
ends-refused r documents ahead is (goes_on block done none read scanned) =
    let wrong : false ≡ true = ap is_some (sym none) ∙ is in absurd cc

-- ---- the answer of what was read to its end

one_answer : (functions : List Parsed) (meta : Option Maps) (refused : Option Refusal) (a b : Result Program ParseError) → AnswersAs functions meta refused a →
    AnswersAs functions meta refused b → a ≡ b
one_answer functions meta (Some refusal) a b is same = is ∙ sym same
one_answer functions (Some meta) None a b is same = is ∙ sym same
one_answer functions None None a b is same = absurd is

unless_memory : (answer : Result Program ParseError) (P : Type 0) → P → UnlessMemory answer P
unless_memory (Ok program) P said = said
unless_memory (Err errors.Memory) P said = tt
unless_memory (Err (errors.Refused r)) P said = said

pub answers-ended : (linked : Bool) (r : PartialProgram) (text : List ℕ) (answer : Result Program ParseError) → AnswersAs r.functions r.meta r.refused answer →
    Ends r (documents_of linked text) → UnlessMemory answer (ReadsText linked text answer)
answers-ended linked r text answer is (other, same, reads) =
    let one : answer ≡ other = one_answer r.functions r.meta r.refused answer other is same in
    let said : ReadsText linked text answer = subst (ReadsDocuments (documents_of linked text)) (sym one) reads in
    unless_memory answer (ReadsText linked text answer) said
