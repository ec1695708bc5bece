-- The items of a program are of the language in which it is read.
use Rattle.std.proofs.Common.{◌≡◌, ℕ, zero, suc, ◌+◌, ◌<◌, ◌≤◌, Bool, true, false, cond, ◌&&◌, List, [], ◌∷◌, ◌++◌, length, All, Option, Some, None, Result, Ok, Err}
use Rattle.std.proofs.Common.{refl, sym, subst, inl, inr}
use Rattle.std.proofs.lemmas.Bool.{cases_lt}
use Rattle.std.proofs.lemmas.List.Elements.{All-nil, All-cons, All-head, All-tail, All-push}
use Rattle.read_refusal.specs.declared.first.Refusal.{Refusal}
use Rattle.read_metadata.specs.Maps.{Maps}
use Rattle.read_metadata.specs.Metadata.{metadata_of}
use Rattle.read_lexer.specs.declared.line.Line.{Line}
use Rattle.read_documents.specs.declared.parts.FunctionDocument.{FunctionDocument}
use Rattle.read_documents.specs.declared.parts.Documents.{Documents}
use Rattle.read_documents.specs.Key.{is_passed, opens_block, opens_function}
use Rattle.read_documents.specs.Lines.{lines_of}
use Rattle.read_documents.specs.Documents.{inside, is_closed, is_complete, first_fault, fault_or, function_document, function_from, block_from, stops}
use Rattle.read_documents.specs.Documents.{documents_from, documents_of}
use Rattle.mir_func.specs.Function.{Function}
use Rattle.mir_func.specs.Sound.{AllItems}
use Rattle.read_declarations.specs.declared.declarations.Declarations.{Declarations}
use Rattle.read_declarations.specs.Declarations.{declarations_of}
use Rattle.read_program.specs.read_body.declared.body.Body.{Body}
use Rattle.read_program.specs.declared.closing.Parsed.{Parsed}
use Rattle.read_program.specs.declared.error.ParseError.{ParseError}
use Rattle.read_program.specs.declared.program.Program.{Program}
use Rattle.read_program.specs.BodyLines.{body_of}
use Rattle.read_program.specs.Closing.{ParsesParts, Parses}
use Rattle.read_program.specs.Limited.{IsOfLanguage}
use Rattle.read_program.specs.Program.{MAX_FUNCTIONS, Goes, too_many, FunctionsFrom}
use Rattle.read_program.proofs.Comes.{body_reads}
use Rattle.read_proof.specs.Read.{ProgramsAreOfTheirLanguage}
use Rattle.read_proof.proofs.Texts.{closed_reads, function_language, program_is}

-- ---- documents

abbrev Is : Bool → FunctionDocument → Type 0
Is linked d = d.linked ≡ linked

abbrev Are : Bool → Documents → Type 0
Are linked docs = All (Is linked) docs.functions

is_document : (linked : Bool) (opened : ℕ) (ls : List Line) (closed : ℕ) → Is linked (function_document linked opened ls closed)
unfolding function_document
is_document linked opened ls closed = refl

block_is : (linked : Bool) (opened : ℕ) (ls : List Line) (others : Documents) → Are linked others → Are linked (block_from opened ls others)
unfolding block_from
block_is linked opened ls others all = by (is_closed ls) where
  by : (t : Bool) → Are linked (cond t (record others { meta = inside ls ++ others.meta })
      (record { meta = inside ls; functions = []; bad = Some (opened + length ls) }))
  by true = all
  by false = All-nil (Is linked)

function_is : (linked : Bool) (opened : ℕ) (ls : List Line) (others : Documents) → Are linked others → Are linked (function_from linked opened ls others)
unfolding function_from
function_is linked opened ls others all = by (first_fault linked [] (inside ls)) (is_complete (inside ls)) (is_closed ls) where
  whole : FunctionDocument
  whole = function_document linked opened (inside ls) (opened + length (inside ls) + 1)

  by : (fault : Option ℕ) (complete closed : Bool) →
      Are linked (fault_or fault (cond complete (cond closed (record others { functions = whole ∷ others.functions }) (stops (opened + length ls)))
      (stops opened)))
  by (Some n) complete closed = All-nil (Is linked)
  by None false closed = All-nil (Is linked)
  by None true false = All-nil (Is linked)
  by None true true = All-cons (Is linked) whole others.functions (is_document linked opened (inside ls) (opened + length (inside ls) + 1)) all

documents_are : (linked : Bool) (skipped : ℕ) (had : Bool) (ls : List Line) → Are linked (documents_from linked skipped had ls)
unfolding documents_from
documents_are linked zero had [] = All-nil (Is linked)
documents_are linked (suc skipped) had [] = All-nil (Is linked)
documents_are linked (suc skipped) had (l ∷ ls) = documents_are linked skipped had ls
documents_are linked zero had (l ∷ ls) =
    by (is_passed l.text) (opens_block l.text) had (opens_function l.text) (documents_are linked 0 had ls)
    (documents_are linked (suc (length (inside ls))) true ls) (documents_are linked (suc (length (inside ls))) had ls)
  where
    in_block : Documents
    in_block = documents_from linked (suc (length (inside ls))) true ls

    in_function : Documents
    in_function = documents_from linked (suc (length (inside ls))) had ls

    by : (passed block twice function : Bool) → Are linked (documents_from linked 0 had ls) → Are linked in_block → Are linked in_function →
        Are linked (cond passed (documents_from linked 0 had ls) (cond block (cond twice (stops l.number) (block_from l.number ls in_block))
        (cond function (function_from linked l.number ls in_function) (stops l.number))))
    by true block twice function a b c = a
    by false true true function a b c = All-nil (Is linked)
    by false true false function a b c = block_is linked l.number ls in_block b
    by false false twice true a b c = function_is linked l.number ls in_function c
    by false false twice false a b c = All-nil (Is linked)

-- ---- functions

abbrev Has : Bool → Parsed → Type 0
Has linked p = AllItems (λ i. IsOfLanguage linked i.kind) p.func.blocks

parts_language : (meta : Maps) (doc : FunctionDocument) (declared : Result Declarations Refusal) (body : Result Body Refusal) (p : Parsed) →
    declarations_of doc ≡ declared → body_of doc.linked meta doc.body ≡ body → ParsesParts doc.linked doc.closed declared body (Ok p) → Has doc.linked p
parts_language meta doc (Ok d) (Ok body) p said is closes =
    let known = closed_reads doc d body said closes.0 in
    subst (λ (f : Function). AllItems (λ i. IsOfLanguage doc.linked i.kind) f.blocks) (sym closes.1)
    (function_language doc.linked meta d body known.all known.more known.fixed (body_reads doc.linked meta doc.body body is))
parts_language meta doc (Err r) (Ok body) p said is closes = absurd closes
parts_language meta doc (Ok d) (Err s) p said is closes = absurd closes
parts_language meta doc (Err r) (Err s) p said is closes = absurd closes

parsed_language : (meta : Maps) (doc : FunctionDocument) (p : Parsed) → Parses meta doc (Ok p) → Has doc.linked p
parsed_language meta doc p parses = parts_language meta doc (declarations_of doc) (body_of doc.linked meta doc.body) p refl refl parses

module _ (linked : Bool) (meta : Maps) where
  goes_on : (doc : FunctionDocument) (docs : List FunctionDocument) (fs all : List Parsed) (read : Result Parsed ParseError) → Is linked doc →
      Parses meta doc read → ((p : Parsed) → FunctionsFrom meta (fs ++ p ∷ []) docs (Ok all) → All (Has linked) (fs ++ p ∷ []) → All (Has linked) all) →
      Goes read (λ (p : Parsed). FunctionsFrom meta (fs ++ p ∷ []) docs (Ok all)) (Ok all) → All (Has linked) fs → All (Has linked) all
  goes_on doc docs fs all (Ok p) is parses more goes are =
      more p goes (All-push (Has linked) fs p are (subst (λ (b : Bool). Has b p) is (parsed_language meta doc p parses)))
  goes_on doc docs fs all (Err e) is parses more goes are = absurd cc

  functions_language : (docs : List FunctionDocument) (fs all : List Parsed) → All (Is linked) docs → FunctionsFrom meta fs docs (Ok all) →
      All (Has linked) fs → All (Has linked) all
  unfolding FunctionsFrom
  functions_language [] fs all is from are = let same : all ≡ fs = cc in subst (All (Has linked)) (sym same) are
  functions_language (d ∷ docs) fs all is from are = elim (cases_lt (length fs) MAX_FUNCTIONS) [
    | inl few ↦ (let read = from.1 few in goes_on d docs fs all read.0 (All-head (Is linked) d docs is) read.1
        (λ p f a. functions_language docs (fs ++ p ∷ []) all (All-tail (Is linked) d docs is) f a) read.2 are)
    | inr le ↦ absurd (not_ok (from.0 le))
  ] where
    not_ok : Ok all ≡ too_many d → ⊥
    not_ok e = cc

pub programs_are_of_their_language : ProgramsAreOfTheirLanguage
programs_are_of_their_language linked text p reads =
    let docs = documents_of linked text in
    let meta = metadata_of docs.meta in
    let is = program_is meta docs.bad reads.0 p reads.2 in
    let all = functions_language linked meta docs.functions [] is.0 (documents_are linked 0 false (lines_of text))
    (subst (λ (r : Result (List Parsed) ParseError). FunctionsFrom meta [] docs.functions r) is.1 reads.1) (All-nil (Has linked)) in
    subst (λ (q : Program). All (Has linked) q.functions) (sym is.2) all
