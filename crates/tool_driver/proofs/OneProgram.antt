-- A text that stands for a program is refused nowhere, and stands for no other: its documents are read in the same order to the same
-- functions, and where a function closes it is refused for its blocks' ends only where they don't end well.
use Rattle.std.specs.Prelude.{Option, Some, None, Result, Ok, Err}
use Rattle.std.proofs.Common.{◌≡◌, Bool, ℕ, List, [], ◌∷◌, ◌++◌, length, refl, sym, ap, subst, ◌∙◌, inl, inr}
use Rattle.std.proofs.lemmas.Bool.Decides.{leb_tells}
use Rattle.read_refusal.specs.declared.first.Refusal.{Refusal}
use Rattle.read_refusal.specs.declared.kind.RefusalKind.{RefusalKind}
use Rattle.read_documents.specs.declared.parts.FunctionDocument.{FunctionDocument}
use Rattle.read_documents.specs.Documents.{documents_of}
use Rattle.read_metadata.specs.Maps.{Maps}
use Rattle.read_metadata.specs.Metadata.{metadata_of}
use Rattle.mir_func.specs.Function.{Function}
use Rattle.read_declarations.specs.declared.declarations.Declarations.{Declarations}
use Rattle.read_declarations.specs.Declarations.{declarations_of}
use Rattle.read_body.specs.declared.body.Body.{Body}
use Rattle.read_program.specs.declared.closing.Parsed.{Parsed}
use Rattle.read_program.specs.declared.program.Program.{Program}
use Rattle.read_program.specs.declared.error.ParseError.{ParseError}
use Rattle.read_program.specs.declared.error.ParseError.TheVariants as errors
use Rattle.read_program.specs.BodyLines.{body_of}
use Rattle.read_program.specs.Closing.{EndWell, closing_cause, function_of, ClosesWith, ParsesParts, Parses}
use Rattle.read_program.specs.Program.{MAX_FUNCTIONS, Goes, too_many, FunctionsFrom, program_of, ReadsText}
use Rattle.tool_driver.specs.Refusals.{IsRefusedAt}

-- ---- one document

not_both : (line : ℕ) (r : Refusal) (cause : Option RefusalKind) (f : Function) → cause ≡ None → EndWell f.blocks → ClosesWith line r cause f → ⊥
not_both line r None f e ends with_ = with_.1 ends
not_both line r (Some cause) f e ends with_ = cc

parts_once : (linked : Bool) (line : ℕ) (declared : Result Declarations Refusal) (body : Result Body Refusal) (p : Parsed) (r : Refusal) →
    ParsesParts linked line declared body (Ok p) → ParsesParts linked line declared body (Err (errors.Refused r)) → ⊥
parts_once linked line (Ok d) (Ok body) p r ok err = not_both line r (closing_cause linked d body) (function_of d body) ok.0 ok.3 err
parts_once linked line (Err s) (Ok body) p r ok err = ok
parts_once linked line (Ok d) (Err s) p r ok err = ok
parts_once linked line (Err s) (Err t) p r ok err = ok

-- a document isn't both parsed and refused
parses_once : (meta : Maps) (doc : FunctionDocument) (p : Parsed) (r : Refusal) → Parses meta doc (Ok p) → Parses meta doc (Err (errors.Refused r)) → ⊥
parses_once meta doc p r ok err = parts_once doc.linked doc.closed (declarations_of doc) (body_of doc.linked meta doc.body) p r ok err

same_parts : (linked : Bool) (line : ℕ) (declared : Result Declarations Refusal) (body : Result Body Refusal) (p q : Parsed) →
    ParsesParts linked line declared body (Ok p) → ParsesParts linked line declared body (Ok q) → p ≡ q
same_parts linked line (Ok d) (Ok body) p q a b =
    let func : p.func ≡ q.func = a.1 ∙ sym b.1 in
    let subs : p.subs ≡ q.subs = a.2 ∙ sym b.2 in
    let exposes : p.exposure ≡ q.exposure = a.4 ∙ sym b.4 in
    let pool : p.pool ≡ q.pool = a.5 ∙ sym b.5 in
    λ i. record { func = func i; subs = subs i; pool = pool i; exposure = exposes i }
same_parts linked line (Err s) (Ok body) p q a b = absurd a
same_parts linked line (Ok d) (Err s) p q a b = absurd a
same_parts linked line (Err s) (Err t) p q a b = absurd a

-- a document is parsed to one function
same_function : (meta : Maps) (doc : FunctionDocument) (p q : Parsed) → Parses meta doc (Ok p) → Parses meta doc (Ok q) → p ≡ q
same_function meta doc p q a b = same_parts doc.linked doc.closed (declarations_of doc) (body_of doc.linked meta doc.body) p q a b

-- ---- all documents

-- what the answer is where a document is read behind some functions
abbrev Ends : Maps → FunctionDocument → List Parsed → List FunctionDocument → Result (List Parsed) ParseError → Type 0
Ends meta d gs docs answer =
    (read : Result Parsed ParseError) × Parses meta d read × Goes read (λ (p : Parsed). FunctionsFrom meta (gs ++ p ∷ []) docs answer) answer

-- documents aren't both read and refused
read_once : (meta : Maps) (gs fs : List Parsed) (r : Refusal) (docs : List FunctionDocument) → FunctionsFrom meta gs docs (Ok fs) →
    FunctionsFrom meta gs docs (Err (errors.Refused r)) → ⊥
unfolding FunctionsFrom
read_once meta gs fs r [] said refused = cc
read_once meta gs fs r (d ∷ docs) said refused = elim (leb_tells MAX_FUNCTIONS (length gs)) [
  | inr few ↦ goes (λ p more other. read_once meta (gs ++ p ∷ []) fs r docs more other) (said.1 few.1) (refused.1 few.1)
  | inl le ↦ let no : Ok fs ≡ too_many d = said.0 le.1 in cc
]
  where
    goes : ((p : Parsed) → FunctionsFrom meta (gs ++ p ∷ []) docs (Ok fs) → FunctionsFrom meta (gs ++ p ∷ []) docs (Err (errors.Refused r)) → ⊥) →
        Ends meta d gs docs (Ok fs) → Ends meta d gs docs (Err (errors.Refused r)) → ⊥
    goes longer (Err e, parses, ended) other = cc
    goes longer (Ok p, parses, more) (Err e, parsed, same) =
        let refusal : Err e ≡ Err (errors.Refused r) = sym same in
        let cause : e ≡ errors.Refused r = cc in
        parses_once meta d p r parses (subst (λ (x : ParseError). Parses meta d (Err x)) cause parsed)
    goes longer (Ok p, parses, more) (Ok q, parsed, further) =
        longer p more
        (subst (λ (x : Parsed). FunctionsFrom meta (gs ++ x ∷ []) docs (Err (errors.Refused r))) (same_function meta d q p parsed parses) further)

-- ---- a text

-- what a program is made of
record MadeOf (meta : Maps) (bad : Option ℕ) (functions : Result (List Parsed) ParseError) (p : Program) : Type 0 where
  functions_are : functions ≡ Ok p.functions
  whole : bad ≡ None
  meta_is : p.meta ≡ meta

made_of : (meta : Maps) (bad : Option ℕ) (functions : Result (List Parsed) ParseError) (p : Program) → Ok p ≡ program_of meta bad functions →
    MadeOf meta bad functions p
made_of meta bad (Err e) p is = absurd cc
made_of meta None (Ok fs) p is =
    let program : p ≡ record { functions = fs; meta = meta } = cc in
    record {
      functions_are = ap (λ (q : Program). Ok q.functions) (sym program);
      whole = refl;
      meta_is = ap (λ (q : Program). q.meta) program;
    }
made_of meta (Some line) (Ok fs) p is = absurd cc

-- where the text is a sequence of documents, its refusal is that of one of them
refused_of : (meta : Maps) (functions : Result (List Parsed) ParseError) (r : Refusal) → Err (errors.Refused r) ≡ program_of meta None functions →
    functions ≡ Err (errors.Refused r)
refused_of meta (Err e) r is = let cause : e ≡ errors.Refused r = cc in ap (λ (x : ParseError). Err x) cause
refused_of meta (Ok fs) r is = absurd cc

pub program_not_refused : (linked : Bool) (text : List ℕ) (program : Program) (r : Refusal) → ReadsText linked text (Ok program) →
    IsRefusedAt linked text r → ⊥
program_not_refused linked text program r reads refused =
    let docs = documents_of linked text in
    let meta : Maps = metadata_of docs.meta in
    let made = made_of meta docs.bad reads.0 program reads.2 in
    let whole : Err (errors.Refused r) ≡ program_of meta None refused.0 =
    refused.2 ∙ ap (λ (bad : Option ℕ). program_of meta bad refused.0) made.whole in
    read_once meta [] program.functions r docs.functions
    (subst (λ (x : Result (List Parsed) ParseError). FunctionsFrom meta [] docs.functions x) made.functions_are reads.1)
    (subst (λ (x : Result (List Parsed) ParseError). FunctionsFrom meta [] docs.functions x) (refused_of meta refused.0 r whole) refused.1)

-- a text stands for one program
same_functions : (meta : Maps) (gs fs hs : List Parsed) (docs : List FunctionDocument) → FunctionsFrom meta gs docs (Ok fs) →
    FunctionsFrom meta gs docs (Ok hs) → fs ≡ hs
unfolding FunctionsFrom
same_functions meta gs fs hs [] one other = cc
same_functions meta gs fs hs (d ∷ docs) one other = elim (leb_tells MAX_FUNCTIONS (length gs)) [
  | inr few ↦ goes (λ p more further. same_functions meta (gs ++ p ∷ []) fs hs docs more further) (one.1 few.1) (other.1 few.1)
  | inl le ↦ let no : Ok fs ≡ too_many d = one.0 le.1 in cc
]
  where
    goes : ((p : Parsed) → FunctionsFrom meta (gs ++ p ∷ []) docs (Ok fs) → FunctionsFrom meta (gs ++ p ∷ []) docs (Ok hs) → fs ≡ hs) →
        Ends meta d gs docs (Ok fs) → Ends meta d gs docs (Ok hs) → fs ≡ hs
    goes longer (Err e, parses, ended) other = absurd cc
    goes longer (Ok p, parses, more) (Err e, parsed, ended) = absurd cc
    goes longer (Ok p, parses, more) (Ok q, parsed, further) =
        longer p more
        (subst (λ (x : Parsed). FunctionsFrom meta (gs ++ x ∷ []) docs (Ok hs)) (same_function meta d q p parsed parses) further)

functions_one : (linked : Bool) (text : List ℕ) (p q : Program) → ReadsText linked text (Ok p) → ReadsText linked text (Ok q) → p.functions ≡ q.functions
functions_one linked text p q one other =
    let docs = documents_of linked text in
    let meta : Maps = metadata_of docs.meta in
    let made = made_of meta docs.bad one.0 p one.2 in
    let also = made_of meta docs.bad other.0 q other.2 in
    same_functions meta [] p.functions q.functions docs.functions
    (subst (λ (x : Result (List Parsed) ParseError). FunctionsFrom meta [] docs.functions x) made.functions_are one.1)
    (subst (λ (x : Result (List Parsed) ParseError). FunctionsFrom meta [] docs.functions x) also.functions_are other.1)

pub programs_one : (linked : Bool) (text : List ℕ) (p q : Program) → ReadsText linked text (Ok p) → ReadsText linked text (Ok q) → p ≡ q
programs_one linked text p q one other =
    let docs = documents_of linked text in
    let made = made_of (metadata_of docs.meta) docs.bad one.0 p one.2 in
    let also = made_of (metadata_of docs.meta) docs.bad other.0 q other.2 in
    let functions : p.functions ≡ q.functions = functions_one linked text p q one other in
    let meta : p.meta ≡ q.meta = made.meta_is ∙ sym also.meta_is in
    λ j. record { functions = functions j; meta = meta j }
