-- The functions of a program were read from documents of the text, and their names are of bytes.
use Rattle.std.proofs.Common.{◌≡◌, Bool, false, ℕ, ◌+◌, ◌<◌, ◌≤◌, List, [], ◌∷◌, ◌++◌, map, length, All, Option, Some, None, Result, Ok, Err}
use Rattle.std.proofs.Common.{refl, sym, ap, subst, arith, inl, inr}
use Rattle.std.proofs.lemmas.Bool.{cases_lt}
use Rattle.std.proofs.lemmas.List.{length-append}
use Rattle.std.proofs.lemmas.List.Elements.{All-nil, All-head, All-tail, All-push, All-map, All-weaker, All-contains}
use Rattle.read_refusal.specs.declared.first.Refusal.{Refusal}
use Rattle.read_metadata.specs.Maps.{Maps}
use Rattle.read_metadata.specs.Metadata.{metadata_of}
use Rattle.read_lexer.specs.declared.line.Line.{Line}
use Rattle.read_documents.specs.declared.parts.FunctionDocument.{FunctionDocument}
use Rattle.read_documents.specs.Documents.{documents_of}
use Rattle.mir_func.specs.declared.block.Block.{Block}
use Rattle.mir_func.specs.declared.item.Item.{Item}
use Rattle.mir_func.specs.Sound.{AllItems, items_of}
use Rattle.read_declarations.specs.declared.declarations.Declarations.{Declarations}
use Rattle.read_declarations.specs.Declarations.{refusal_of, declared_of, checked, declarations_of}
use Rattle.read_body.specs.declared.body.Body.{Body}
use Rattle.read_body.specs.Body.{blocks_of}
use Rattle.read_body.specs.StackEntryKind.{ids_of_objects}
use Rattle.read_program.specs.declared.closing.Parsed.{Parsed}
use Rattle.read_program.specs.declared.error.ParseError.{ParseError}
use Rattle.read_program.specs.declared.program.Program.{Program}
use Rattle.read_program.specs.BodyLines.{body_of}
use Rattle.read_program.specs.Closing.{ParsesParts, Parses}
use Rattle.read_program.specs.Objects.{kind_as, item_as, block_as, blocks_as}
use Rattle.read_program.specs.Program.{MAX_FUNCTIONS, Goes, too_many, FunctionsFrom, program_of, ReadsText}
use Rattle.readback_items.specs.Laws.{HasByteNames}
use Rattle.readback_functions.specs.Known.{IsOfLine}
use Rattle.readback_functions.proofs.Known.{bodies_are_known}
use Rattle.readback_functions.specs.Stripped.{HasNamesOfBytes}
use Rattle.readback_functions.proofs.Functions.{split_items}
use Rattle.readback_functions.specs.Bytes.{AreBytes, NamesAreOfBytes}
use Rattle.readback_functions.proofs.NameCodes.{kind_bytes, kind_as_bytes}
use Rattle.readback_functions.proofs.NameDocuments.{DocBytes, documents_bytes}
use Rattle.readback_functions.proofs.Forms.{line_bytes}
use Rattle.readback_functions.proofs.NameLines.{LineBytes}
use Rattle.readback_functions.proofs.Names.{name_bytes}

-- ---- functions that were read

-- a document of some kind stands for it
pub record WasRead (P : FunctionDocument → Type 0) (meta : Maps) (q : Parsed) : Type 0 where
  pub doc : FunctionDocument
  pub is : P doc
  pub parses : Parses meta doc (Ok q)

module _ (P : FunctionDocument → Type 0) (meta : Maps) where
  -- there are few, and each was read
  abbrev pub AreFew : List Parsed → Type 0
  AreFew fs = (length fs ≤ MAX_FUNCTIONS) × All (WasRead P meta) fs

  goes_on : (doc : FunctionDocument) (docs : List FunctionDocument) (fs all : List Parsed) (read : Result Parsed ParseError) → P doc → Parses meta doc read →
      ((q : Parsed) → FunctionsFrom meta (fs ++ q ∷ []) docs (Ok all) → AreFew (fs ++ q ∷ []) → AreFew all) →
      Goes read (λ (q : Parsed). FunctionsFrom meta (fs ++ q ∷ []) docs (Ok all)) (Ok all) → length fs < MAX_FUNCTIONS → All (WasRead P meta) fs → AreFew all
  goes_on doc docs fs all (Ok q) is parses more goes few are =
      more q goes (
        omega (arith, few, length-append fs (q ∷ [])),
        All-push (WasRead P meta) fs q are (record { doc = doc; is = is; parses = parses }),
      )
  goes_on doc docs fs all (Err e) is parses more goes few are = absurd cc

  not_ok : (doc : FunctionDocument) (all : List Parsed) → Ok all ≡ too_many doc → ⊥
  not_ok doc all e = cc

  pub functions_read : (docs : List FunctionDocument) (fs all : List Parsed) → All P docs → FunctionsFrom meta fs docs (Ok all) → AreFew fs → AreFew all
  unfolding FunctionsFrom
  functions_read [] fs all each from are = let same : all ≡ fs = cc in subst AreFew (sym same) are
  functions_read (d ∷ docs) fs all each from are = elim (cases_lt (length fs) MAX_FUNCTIONS) [
    | inl few ↦ (let read = from.1 few in goes_on d docs fs all read.0 (All-head P d docs each) read.1
        (λ q f a. functions_read docs (fs ++ q ∷ []) all (All-tail P d docs each) f a) read.2 few are.1)
    | inr le ↦ absurd (not_ok d all (from.0 le))
  ]

-- a program was read from these documents
pub record IsReadFrom (meta : Maps) (functions : Result (List Parsed) ParseError) (p : Program) : Type 0 where
  pub read : functions ≡ Ok p.functions
  pub maps : p.meta ≡ meta

pub program_is : (meta : Maps) (bad : Option ℕ) (functions : Result (List Parsed) ParseError) (p : Program) → Ok p ≡ program_of meta bad functions →
    IsReadFrom meta functions p
program_is meta bad (Err e) p is = absurd cc
program_is meta None (Ok fs) p is =
    let same : p ≡ record { functions = fs; meta = meta } = cc in
    record { read = ap (λ (x : Program). Ok x.functions) (sym same); maps = ap (λ (x : Program). x.meta) same }
program_is meta (Some line) (Ok fs) p is = absurd cc

-- the functions of a program that a text of bytes stands for
pub program_read : (text : List ℕ) (p : Program) → AreBytes text → ReadsText false text (Ok p) →
    AreFew DocBytes (metadata_of (documents_of false text).meta) p.functions
program_read text p bytes reads =
    let docs = documents_of false text in
    let meta = metadata_of docs.meta in
    let is = program_is meta docs.bad reads.0 p reads.2 in
    functions_read DocBytes meta docs.functions [] p.functions (documents_bytes text bytes)
    (subst (λ (r : Result (List Parsed) ParseError). FunctionsFrom meta [] docs.functions r) is.read reads.1) (omega arith, All-nil (WasRead DocBytes meta))

-- ---- a function

texts_bytes : (ls : List Line) → All LineBytes ls → All AreBytes (map (λ (l : Line). l.text) ls)
texts_bytes ls all = All-map AreBytes (λ (l : Line). l.text) ls all

-- the items of blocks where stack entries are objects
blocks_bytes : (ids : List ℕ) (bs : List Block) → AllItems (λ i. HasByteNames i.kind) bs → AllItems (λ i. HasByteNames i.kind) (blocks_as ids bs)
blocks_bytes ids bs all =
    All-map (λ (b : Block). All (λ i. HasByteNames i.kind) b.items) (block_as ids) bs
    (All-weaker (λ (b : Block). All (λ i. HasByteNames i.kind) b.items) (λ (b : Block). All (λ i. HasByteNames i.kind) (block_as ids b).items)
    (λ b each. All-map (λ (i : Item). HasByteNames i.kind) (item_as ids) b.items
    (All-weaker (λ (i : Item). HasByteNames i.kind) (λ (i : Item). HasByteNames (kind_as ids i.kind)) (λ i is. kind_as_bytes ids i.kind is) b.items each))
    bs all)

items_bytes : (meta : Maps) (ls : List Line) (body : Body) → All LineBytes ls → body_of false meta ls ≡ Ok body →
    AllItems (λ i. HasByteNames i.kind) (blocks_of body)
items_bytes meta ls body bytes read =
    split_items (λ i. HasByteNames i.kind) (blocks_of body)
    (All-weaker (λ (i : Item). IsOfLine meta texts i.kind) (λ (i : Item). HasByteNames i.kind)
    (λ i of. kind_bytes meta of.form of.item (line_bytes of.text of.form (All-contains AreBytes texts of.text (texts_bytes ls bytes) of.there) of.says) of.means
    i.kind of.is) (items_of (blocks_of body)) (bodies_are_known meta ls body read).each)
  where
    texts : List (List ℕ)
    texts = map (λ (l : Line). l.text) ls

pub checked_is : (refused : Option Refusal) (declared d : Declarations) → checked refused declared ≡ Ok d → declared ≡ d
checked_is (Some r) declared d e = absurd cc
checked_is None declared d e = cc

by_parts : (meta : Maps) (doc : FunctionDocument) (q : Parsed) (d : Result Declarations Refusal) (body : Result Body Refusal) → declarations_of doc ≡ d →
    body_of false meta doc.body ≡ body → ParsesParts doc.linked doc.closed d body (Ok q) → DocBytes doc → HasNamesOfBytes q.func
by_parts meta doc q (Ok d) (Ok body) declared read closes bytes =
    let same = checked_is (refusal_of doc) (declared_of doc) d declared in
    subst HasNamesOfBytes (sym closes.1) (record {
      name = subst (λ (x : Declarations). AreBytes x.name) same (name_bytes doc.name bytes.name);
      symbols = blocks_bytes (ids_of_objects body.objects d.stack) (blocks_of body) (items_bytes meta doc.body body bytes.body read);
    })
by_parts meta doc q (Ok d) (Err s) declared read refused bytes = absurd refused
by_parts meta doc q (Err r) (Ok body) declared read refused bytes = absurd refused
by_parts meta doc q (Err r) (Err s) declared read refused bytes = absurd refused

pub names_are_of_bytes : NamesAreOfBytes
names_are_of_bytes text p bytes reads =
    let meta = metadata_of (documents_of false text).meta in
    All-weaker (WasRead DocBytes meta) (λ (q : Parsed). HasNamesOfBytes q.func)
    (λ q was. by_parts meta was.doc q (declarations_of was.doc) (body_of was.doc.linked meta was.doc.body) refl
    (ap (λ (b : Bool). body_of b meta was.doc.body) (sym was.is.plain)) was.parses was.is) p.functions
    (program_read text p bytes reads).1
