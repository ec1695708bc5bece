-- A program that was read is as it was read.
use Rattle.std.proofs.Common.{◌≡◌, ℕ, ◌+◌, ◌-◌, ◌<◌, ◌≤◌, Bool, true, false, cond, ◌&&◌, List, [], ◌∷◌, ◌++◌, length, All, Option, Some, None, Result, Ok, Err}
use Rattle.std.proofs.Common.{refl, sym, subst}
use Rattle.std.proofs.Common.{inl, inr, arith}
use Rattle.std.specs.Prelude.{is_some, IfSome}
use Rattle.std.specs.Option.{option_and_then}
use Rattle.std.proofs.lemmas.Bool.{cases_lt}
use Rattle.std.proofs.lemmas.List.{length-append}
use Rattle.std.proofs.lemmas.List.Elements.{All-nil, All-push, All-weaker}
use Rattle.read_refusal.specs.declared.first.Refusal.{Refusal}
use Rattle.read_refusal.specs.declared.kind.RefusalKind.TheVariants.{StackObject, UnknownBlock}
use Rattle.read_metadata.specs.Maps.{Maps}
use Rattle.read_metadata.specs.declared.node.Node.{Node}
use Rattle.read_metadata.specs.declared.node.Node.TheVariants as nodes
use Rattle.read_metadata.specs.Metadata.{metadata_of, as_location, node_at}
use Rattle.read_lexer.specs.declared.line.Line.{Line}
use Rattle.read_documents.specs.declared.parts.FunctionDocument.{FunctionDocument}
use Rattle.read_documents.specs.Documents.{documents_of}
use Rattle.mir_func.specs.declared.block.Block.{Block}
use Rattle.mir_func.specs.declared.debug_substitution.DebugSubstitution.{DebugSubstitution}
use Rattle.mir_func.specs.declared.item.Item.{Item}
use Rattle.mir_func.specs.declared.item.ItemKind.{ItemKind}
use Rattle.mir_func.specs.declared.location.Loc.{Loc}
use Rattle.base_ids.specs.Limits.{MAX_NUMBER, FIXED}
use Rattle.mir_func.specs.Limits.{MAX_SLOTS}
use Rattle.mir_func.specs.Sound.{AreApart, AllItems, IsSound, HasForm}
use Rattle.mir_pool.specs.Pool.{constant_ids}
use Rattle.read_declarations.specs.declared.declarations.Declarations.{Declarations}
use Rattle.read_declarations.specs.Declarations.{declarations_of}
use Rattle.read_declarations.specs.Fixed.{fixed_ids}
use Rattle.read_program.specs.read_item.Debug.{inlined_at_node}
use Rattle.read_program.specs.read_body.declared.body.Body.{Body}
use Rattle.read_program.specs.read_body.Body.{blocks_of}
use Rattle.read_program.specs.read_body.Closing.{blocks_go_to, all_met}
use Rattle.read_program.specs.read_body.StackEntryKind.{ids_of_objects}
use Rattle.read_program.specs.read_body.FirstUseOrder.{is_met}
use Rattle.read_program.specs.declared.closing.Parsed.{Parsed}
use Rattle.read_program.specs.declared.error.ParseError.{ParseError}
use Rattle.read_program.specs.declared.program.Program.{Program}
use Rattle.read_program.specs.Objects.{kind_as, blocks_as}
use Rattle.read_program.specs.Pool.{are_known}
use Rattle.read_program.specs.Closing.{entry_ids, known_ids, parts_of, closing_cause, function_of, ParsesParts, Parses}
use Rattle.read_program.specs.BodyLines.{body_of}
use Rattle.read_program.specs.Program.{MAX_FUNCTIONS, Goes, too_many, FunctionsFrom, program_of}
use Rattle.mir_printer.specs.Printable.{IsPrintable}
use Rattle.read_program.specs.Limited.{KindIsLimited, LocIsLimited, IsOfLanguage}
use Rattle.read_proof.specs.Read.{declared_in, EntryIsLimited, LocationsAreLimited, IsReadFunction, IsReadProgram, ProgramsAreAsRead}
use Rattle.read_program.proofs.Bodies.{IsReadBlock, IsReadBody}
use Rattle.read_program.proofs.Comes.{EndsFromLine, body_reads}
use Rattle.read_program.proofs.Entries.{declared_if_met}
use Rattle.read_program.proofs.FixedObjects.{known_entry, known_fixed}
use Rattle.read_program.proofs.Stack.{IsReadFixed, declared_stack, declared_fixed, entries_low}
use Rattle.read_program.proofs.Keeps.{keeps_item}
use Rattle.read_proof.proofs.Kept.{AllEntries, AllFixed, IsKept, item_kept}
use Rattle.read_proof.proofs.Labels.{ids_small, blocks_small}
use Rattle.read_proof.proofs.Nodes.{Small, IsLimited, node_limited}
use Rattle.read_proof.proofs.Numbers.{DeclaresSmall, declares_small, objects_small, slots_small}
use Rattle.read_program.proofs.Soundness.{sound_if_ends_well}
use Rattle.read_program.proofs.Renamed.{ids_as, items_as, blocks_kept}

-- ---- functions

-- what closing asks: all stack entries that are named are declared
pub all_declared : (a b c : Bool) → cond a (cond (b && c) None (Some StackObject)) (Some UnknownBlock) ≡ None → b ≡ true
all_declared true true c e = refl
all_declared true false c e = absurd cc
all_declared false b c e = absurd cc

-- what is declared of the stack entries and fixed objects that lines name
pub record IsClosed (d : Declarations) (body : Body) : Type 0 where
  pub all : AllEntries d.stack body.entries
  pub more : AllFixed d.fixed body.entries
  pub fixed : IsReadFixed (MAX_SLOTS - length d.stack) d.fixed

pub closed_reads : (doc : FunctionDocument) (d : Declarations) (body : Body) → declarations_of doc ≡ Ok d → closing_cause doc.linked d body ≡ None → IsClosed d body
closed_reads doc d body said none =
    let met = all_declared (blocks_go_to body.ids (blocks_of body)) (all_met (known_ids d) body.entries)
    (are_known (constant_ids d.pool) (blocks_of body) && is_some (parts_of doc.linked body.objects d.stack d.fixed (blocks_of body))) none in
    let known = declared_if_met (known_ids d) body.entries met in
    let fixed = declared_fixed doc d said in
    let great = All-weaker (λ n. (FIXED ≤ n) × (n ≤ FIXED + MAX_NUMBER)) (λ n. FIXED ≤ n) (λ n is. is.0) (fixed_ids d.fixed) fixed.great in
    record {
      all = λ n small m. known_entry n (entry_ids d.stack) d.fixed great small (known n m);
      more = λ n high m. known_fixed n (entry_ids d.stack) d.fixed (entries_low (declared_stack doc d said)) high (known n m);
      fixed = fixed;
    }

module _ (linked : Bool) (meta : Maps) (d : Declarations) (body : Body) (all : AllEntries d.stack body.entries) (more : AllFixed d.fixed body.entries)
    (fixed : IsReadFixed (MAX_SLOTS - length d.stack) d.fixed) where
  abbrev ids : List ℕ
  ids = ids_of_objects body.objects d.stack

  great : All (λ n. FIXED ≤ n) (fixed_ids d.fixed)
  great = All-weaker (λ n. (FIXED ≤ n) × (n ≤ FIXED + MAX_NUMBER)) (λ n. FIXED ≤ n) (λ n is. is.0) (fixed_ids d.fixed) fixed.great

  abbrev Kept : ItemKind → Loc → Type 0
  Kept = IsKept linked meta body.objects d.stack d.fixed body.entries all more great

  kept_item : (kind : ItemKind) (loc : Loc) → EndsFromLine linked meta body kind loc → Kept (kind_as ids kind) loc
  kept_item kind loc from =
      let keeps = keeps_item linked meta body kind loc from in
      item_kept linked meta body.objects d.stack d.fixed body.entries all more great kind loc keeps.item keeps.object

  pub function_language : IsReadBody (EndsFromLine linked meta body) body → AllItems (λ i. IsOfLanguage linked i.kind) (function_of d body).blocks
  function_language is =
      All-weaker (IsReadBlock Kept) (λ (b : Block). All (λ i. IsOfLanguage linked i.kind) b.items)
      (λ b r. All-weaker (λ i. Kept i.kind i.loc) (λ i. IsOfLanguage linked i.kind) (λ i k. k.language) b.items r.each)
      (blocks_as ids (blocks_of body)) (blocks_kept (EndsFromLine linked meta body) Kept ids kept_item (blocks_of body) is.blocks)

  function_reads : IsReadBody (EndsFromLine linked meta body) body → IsSound (function_of d body) → All Small body.ids → DeclaresSmall d →
      IsReadFunction meta (function_of d body)
  function_reads is sound small declares = record {
    sound = sound;
    read = record {
      apart = subst AreApart (sym (ids_as ids (blocks_of body))) is.apart;
      items = All-weaker (IsReadBlock Kept) _ (λ b r. r.items) blocks kept;
      source_end = All-weaker (IsReadBlock Kept) _ (λ b r. r.source_end) blocks kept;
    };
    form = each (λ i. HasForm i.kind) (λ i k. k.form);
    limited = each (λ i. KindIsLimited i.kind × LocIsLimited i.loc) (λ i k. (k.limited, k.place));
    printable = each (IsPrintable (declared_in meta (function_of d body))) (λ i k. record { kind = k.printable; loc = k.told });
    few_items = omega (arith, items_as ids (blocks_of body), is.counted, is.few);
    ids = blocks_small ids (blocks_of body) (subst (λ (ns : List ℕ). All Small ns) is.ids small);
    objects = objects_small body.objects d.stack d.fixed declares.stack fixed.great;
    slots = slots_small body.objects d.stack declares.stack;
  } where
    blocks : List Block
    blocks = blocks_as ids (blocks_of body)

    kept : All (IsReadBlock Kept) blocks
    kept = blocks_kept (EndsFromLine linked meta body) Kept ids kept_item (blocks_of body) is.blocks

    each : (P : Item → Type 0) → ((i : Item) → Kept i.kind i.loc → P i) → AllItems P blocks
    each P from = All-weaker (IsReadBlock Kept) (λ (b : Block). All P b.items) (λ b r. All-weaker (λ i. Kept i.kind i.loc) P from b.items r.each) blocks kept

-- a function with its substitutions
record IsRead (meta : Maps) (p : Parsed) : Type 0 where
  function : IsReadFunction meta p.func
  substitutions : All EntryIsLimited p.subs

parts_read : (meta : Maps) (doc : FunctionDocument) (declared : Result Declarations Refusal) (body : Result Body Refusal) (p : Parsed) →
    declarations_of doc ≡ declared → body_of doc.linked meta doc.body ≡ body → ParsesParts doc.linked doc.closed declared body (Ok p) → IsRead meta p
parts_read meta doc (Ok d) (Ok body) p said is closes =
    let known = closed_reads doc d body said closes.0 in
    let declares = declares_small doc d said in
    record {
      function = subst (IsReadFunction meta) (sym closes.1)
          (function_reads doc.linked meta d body known.all known.more known.fixed (body_reads doc.linked meta doc.body body is)
          (sound_if_ends_well doc.linked meta doc d body said is closes.0 closes.3) (ids_small doc.linked meta doc.body body is) declares);
      substitutions = subst (λ (subs : List DebugSubstitution). All EntryIsLimited subs) (sym closes.2) declares.substitutions;
    }
parts_read meta doc (Err r) (Ok body) p said is closes = absurd closes
parts_read meta doc (Ok d) (Err s) p said is closes = absurd closes
parts_read meta doc (Err r) (Err s) p said is closes = absurd closes

parsed_reads : (meta : Maps) (doc : FunctionDocument) (p : Parsed) → Parses meta doc (Ok p) → IsRead meta p
parsed_reads meta doc p parses = parts_read meta doc (declarations_of doc) (body_of doc.linked meta doc.body) p refl refl parses

-- ---- texts

module _ (meta : Maps) where
  abbrev Are : List Parsed → Type 0
  Are fs = All (IsRead meta) fs

  -- functions that were read, not too many
  abbrev AreFew : List Parsed → Type 0
  AreFew fs = (length fs ≤ MAX_FUNCTIONS) × Are fs

  goes_on : (doc : FunctionDocument) (docs : List FunctionDocument) (fs all : List Parsed) (read : Result Parsed ParseError) → Parses meta doc read →
      ((p : Parsed) → FunctionsFrom meta (fs ++ p ∷ []) docs (Ok all) → AreFew (fs ++ p ∷ []) → AreFew all) →
      Goes read (λ (p : Parsed). FunctionsFrom meta (fs ++ p ∷ []) docs (Ok all)) (Ok all) → length fs < MAX_FUNCTIONS → Are fs → AreFew all
  goes_on doc docs fs all (Ok p) parses more goes few are =
      more p goes (
        omega (arith, few, length-append fs (p ∷ [])),
        All-push (IsRead meta) fs p are (parsed_reads meta doc p parses),
      )
  goes_on doc docs fs all (Err e) parses more goes few are = absurd cc

  functions_read : (docs : List FunctionDocument) (fs all : List Parsed) → FunctionsFrom meta fs docs (Ok all) → AreFew fs → AreFew all
  unfolding FunctionsFrom
  functions_read [] fs all from are = let same : all ≡ fs = cc in subst AreFew (sym same) are
  functions_read (d ∷ docs) fs all from are = elim (cases_lt (length fs) MAX_FUNCTIONS) [
    | inl few ↦ (let read = from.1 few in goes_on d docs fs all read.0 read.1 (λ p f a. functions_read docs (fs ++ p ∷ []) all f a) read.2 few are.1)
    | inr le ↦ absurd (not_ok (from.0 le))
  ] where
    not_ok : Ok all ≡ too_many d → ⊥
    not_ok e = cc

pub program_is : (meta : Maps) (bad : Option ℕ) (functions : Result (List Parsed) ParseError) (p : Program) → Ok p ≡ program_of meta bad functions →
    (fs : List Parsed) × (functions ≡ Ok fs) × (p ≡ record { functions = fs; meta = meta })
program_is meta bad (Err e) p is = absurd cc
program_is meta None (Ok fs) p is = (fs, refl, cc)
program_is meta (Some line) (Ok fs) p is = absurd cc

node_inlined : (o : Option Node) → IfSome o IsLimited → IfSome (inlined_at_node (option_and_then as_location o)) Small
node_inlined None is = tt
node_inlined (Some (nodes.Location l)) is = is
node_inlined (Some (nodes.Variable v)) is = tt
node_inlined (Some (nodes.File f)) is = tt
node_inlined (Some (nodes.BaseType t)) is = tt
node_inlined (Some (nodes.Subprogram s)) is = tt
node_inlined (Some (nodes.Block b)) is = tt

locations_limited : (lines : List Line) → LocationsAreLimited (metadata_of lines)
locations_limited lines n = node_inlined (node_at (metadata_of lines) n) (node_limited lines n)

pub programs_are_as_read : ProgramsAreAsRead
programs_are_as_read linked text p reads =
    let docs = documents_of linked text in
    let meta = metadata_of docs.meta in
    let is = program_is meta docs.bad reads.0 p reads.2 in
    let all = functions_read meta docs.functions [] is.0
    (subst (λ (r : Result (List Parsed) ParseError). FunctionsFrom meta [] docs.functions r) is.1 reads.1)
    (omega arith, All-nil (IsRead meta)) in
    subst IsReadProgram (sym is.2) (record {
      few = all.0;
      functions = All-weaker (IsRead meta) (λ (f : Parsed). IsReadFunction meta f.func) (λ f r. r.function) is.0 all.1;
      substitutions = All-weaker (IsRead meta) (λ (f : Parsed). All EntryIsLimited f.subs) (λ f r. r.substitutions) is.0 all.1;
      locations = locations_limited docs.meta;
    })
