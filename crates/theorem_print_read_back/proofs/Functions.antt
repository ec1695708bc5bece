-- The document of a function that was read is read as that function.
use Rattle.std.proofs.Common.{◌≡◌, Bool, false, ℕ, ◌+◌, ◌≤◌, true, ◌&&◌, List, [], ◌∷◌, map, length, All, Option, None, Result, Ok, Err}
use Rattle.std.proofs.Common.{refl, sym, ap, subst, ◌∙◌, arith, append-nil}
use Rattle.std.proofs.lemmas.Bool.{and_from}
use Rattle.std.specs.Prelude.{is_some, IfSome}
use Rattle.std.proofs.lemmas.List.Elements.{All-nil, All-cons, All-weaker}
use Rattle.read_refusal.specs.declared.first.Refusal.{Refusal}
use Rattle.read_refusal.specs.First.{earlier}
use Rattle.read_metadata.specs.Maps.{Maps}
use Rattle.read_metadata.specs.Metadata.{metadata_of}
use Rattle.base_ids.specs.Limits.{MAX_NUMBER}
use Rattle.read_lexer.specs.declared.line.Line.{Line}
use Rattle.read_documents.specs.declared.parts.FunctionDocument.{FunctionDocument}
use Rattle.read_documents.specs.Documents.{documents_of}
use Rattle.mir_exposure.specs.declared.exposure.Exposure.TheVariants.{Nothing}
use Rattle.mir_func.specs.declared.block.Block.{Block}
use Rattle.mir_func.specs.declared.item.Item.{Item}
use Rattle.mir_func.specs.declared.item.ItemKind.{ItemKind}
use Rattle.mir_func.specs.declared.location.Loc.{Loc}
use Rattle.mir_func.specs.declared.object.Object as func
use Rattle.mir_func.specs.Function.{Function}
use Rattle.mir_func.specs.Objects.{object_of}
use Rattle.mir_func.specs.Sound.{AllItems, items_of, number_of, IsSound}
use Rattle.read_declarations.specs.declared.declarations.Declarations.{Declarations}
use Rattle.read_declarations.proofs.PoolEntries.{plain_pool}
use Rattle.read_declarations.specs.Declarations.{checked, declarations_of}
use Rattle.read_body.specs.declared.body.Body.{Body}
use Rattle.read_body.specs.Body.{constant_of, blocks_of}
use Rattle.read_body.specs.Closing.{blocks_go_to, all_met}
use Rattle.read_body.specs.StackEntryKind.{ids_of_objects}
use Rattle.read_body.specs.FirstUseOrder.{is_met}
use Rattle.read_program.specs.declared.closing.Parsed.{Parsed}
use Rattle.read_program.specs.declared.error.ParseError.{ParseError}
use Rattle.read_program.specs.BodyLines.{body_of}
use Rattle.read_program.specs.Pool.{are_known}
use Rattle.read_program.specs.Closing.{entry_ids, laid_out, stays, parts_of, closing_cause, function_of, EndWell, Closes, ParsesParts, Parses}
use Rattle.read_program.specs.Objects.{kind_as, item_as, block_as, blocks_as, blocks_stay}
use Rattle.read_program.proofs.KnownConstants.{plain_known}
use Rattle.read_program.proofs.Bodies.{IsReadBlock, IsReadBody}
use Rattle.read_program.proofs.Comes.{ComesFromLine, plain_body_reads}
use Rattle.read_program.proofs.Entries.{declared_if_met, ids_are_objects}
use Rattle.read_program.proofs.Frames.{objects_unfixed}
use Rattle.read_program.proofs.Forms.{line_fits}
use Rattle.read_program.proofs.Items.{IsReadItem, item_reads}
use Rattle.read_program.proofs.Judged.{judged_line}
use Rattle.read_program.proofs.Lists.{both}
use Rattle.read_program.proofs.Soundness.{sound_if_ends_well}
use Rattle.read_program.proofs.Stack.{IsReadEntry, declared_stack}
use Rattle.read_proof.proofs.Labels.{ids_small, blocks_small}
use Rattle.read_proof.proofs.Numbers.{HasSmallId, declares_small}
use Rattle.readback_items.specs.Laws.{HasByteNames, IsWritable}
use Rattle.readback_items.specs.Code.{IsReadable}
use Rattle.readback_items.proofs.Readable.{items_are_readable}
use Rattle.readback_items.specs.Body.{body_lines, entries_named, judged_constant, VariableIn, IsReadableItem, AreWithin, ReadsBlocks}
use Rattle.readback_items.proofs.Bodies.{bodies_read_back}
use Rattle.readback_functions.specs.Document.{text_of_lines, Document, document_lines, IsDocument, document_at, documents_at}
use Rattle.readback_functions.proofs.Scans.{documents_read_back}
use Rattle.readback_functions.specs.Declared.{IsEntry}
use Rattle.readback_functions.proofs.DeclarationNames.{names_read_back}
use Rattle.readback_functions.proofs.Stacks.{stacks_read_back}
use Rattle.readback_functions.specs.Frame.{AreDeclared, entries_again, IsReadBack}
use Rattle.readback_functions.proofs.Frames.{frames_read_back}
use Rattle.theorem_print_read_back.proofs.Lines.{substitutions_read_back}
use Rattle.theorem_print_read_back.proofs.New.{substitutions_new}
use Rattle.readback_functions.specs.Known.{IsKnown}
use Rattle.readback_functions.proofs.Known.{bodies_are_known}
use Rattle.readback_functions.specs.Stripped.{HasNamesOfBytes}
use Rattle.readback_functions.proofs.Bodies.{all_declared}
use Rattle.readback_functions.proofs.FunctionCodes.{KnownKind, item_known}
use Rattle.readback_functions.proofs.Exposed.{exposes_nothing}
use Rattle.readback_functions.proofs.Functions.{split_items, unmapped, both_items, weaker_items, texts_are, parts_some, ClosesAll, closes_all, no_cause}
use Rattle.readback_functions.proofs.Functions.{no_fixed, unfixed, unfixed_is}
use Rattle.readback_functions.proofs.NameDocuments.{DocBytes}
use Rattle.readback_functions.proofs.NameFunctions.{WasRead, program_is, program_read, names_are_of_bytes}
use Rattle.theorem_print_read_back.specs.Printed.{IsReadAsPrinted, PrintedFunctionsAreRead}
use Rattle.theorem_print_read_back.proofs.Bodies.{same_number, same_variable, same_constant, kind_limited, kind_language, blocks_named, blocks_go}
use Rattle.theorem_print_read_back.proofs.Bodies.{kind_declared, blocks_again, same_length}
use Rattle.theorem_print_read_back.proofs.Bodies.{ids_as, all_as}
use Rattle.theorem_print_read_back.proofs.Texts.{document_of, document_is, function_fed}

-- an item that comes from a line
item_read : (meta : Maps) (body : Body) (kind : ItemKind) (loc : Loc) → ComesFromLine false meta body kind loc → IsReadItem false meta body.entries kind loc
item_read meta body kind loc from =
    subst (λ (l : Loc). IsReadItem false meta body.entries kind l) from.loc_is
    (subst (λ (k : ItemKind). IsReadItem false meta body.entries k from.item.loc) from.kind_is
    (item_reads false meta body.entries from.form from.item (line_fits false from.text from.form from.says) (judged_line false meta from.form from.item
    from.judged)
    from.entries))

-- what is known of an item
record IsGood (meta : Maps) (body : Body) (kind : ItemKind) (loc : Loc) : Type 0 where
  known : KnownKind body.entries kind
  read : IsReadItem false meta body.entries kind loc

module _ (meta : Maps) (doc : FunctionDocument) (given : Declarations) (body : Body) (p : Parsed) (declared : declarations_of doc ≡ Ok (unfixed given))
    (plain : doc.linked ≡ false) (read : body_of false meta doc.body ≡ Ok body) (closes : Closes false doc.closed (unfixed given) body (Ok p))
    (parses : Parses meta doc (Ok p)) (names : HasNamesOfBytes (function_of (unfixed given) body)) (n : ℕ) where
  abbrev d : Declarations
  d = unfixed given

  abbrev ids : List ℕ
  ids = ids_of_objects body.objects d.stack

  abbrev bs : List Block
  bs = blocks_of body

  abbrev f : Function
  f = function_of d body

  abbrev Knows : Item → Type 0
  Knows i = KnownKind body.entries i.kind

  abbrev Good : Item → Type 0
  Good i = IsGood meta body i.kind i.loc

  is : IsReadBody (ComesFromLine false meta body) body
  is = plain_body_reads meta doc.body body read

  known : IsKnown meta (map (λ (l : Line). l.text) doc.body) body
  known = bodies_are_known meta doc.body body read

  sound : IsSound f
  sound = sound_if_ends_well false meta doc d body declared read closes.0 closes.3

  closed : ClosesAll d body
  closed = closes_all d body closes.0

  good : AllItems Good bs
  good = All-weaker (IsReadBlock (ComesFromLine false meta body)) (λ (b : Block). All Good b.items)
      (λ b r. All-weaker (λ i. ComesFromLine false meta body i.kind i.loc) Good
      (λ i from. record {
        known = (item_known meta body.entries i.kind i.loc from.form from.item from.text from.says from.judged from.kind_is from.loc_is from.entries).kind_is;
        read = item_read meta body i.kind i.loc from;
      }) b.items r.each)
      bs is.blocks

  knows : AllItems Knows bs
  knows = weaker_items Good Knows (λ i g. g.known) bs good

  abbrev NameBytes : Item → Type 0
  NameBytes i = HasByteNames (kind_as ids i.kind)

  -- what is said of the items of the function, of those of its body
  of_items : (P : Item → Type 0) → AllItems P f.blocks → AllItems (λ i. P (item_as ids i)) bs
  of_items P all = All-weaker (λ b. All P (block_as ids b).items) (λ (b : Block). All (λ i. P (item_as ids i)) b.items)
      (λ b each. unmapped P (item_as ids) b.items each) bs (unmapped (λ (b : Block). All P b.items) (block_as ids) bs all)

  abbrev Readable : Item → Type 0
  Readable i = IsReadable meta i.loc (kind_as ids i.kind)

  readable : AllItems Readable bs
  readable = of_items (λ i. IsReadable meta i.loc i.kind)
      (subst (λ (g : Function). AllItems (λ i. IsReadable meta i.loc i.kind) g.blocks) closes.1 (items_are_readable meta doc p parses))

  entries : AreDeclared d.stack
  entries =
      let stack = declared_stack doc d declared in
      record {
        each = All-weaker (λ e. IsReadEntry e × HasSmallId e) IsEntry
            (λ e r. record { id = r.1; size = r.0.size; aligned = r.0.aligned; local = r.0.local }) d.stack
            (both IsReadEntry HasSmallId d.stack stack.each (declares_small doc d declared).stack);
        several = stack.several;
        apart = stack.apart;
        few = stack.few;
      }

  -- ---- the lines of its blocks

  abbrev Writes : Item → Type 0
  Writes i = Good i × NameBytes i

  writes : AllItems Writes bs
  writes = both_items Good NameBytes bs good (of_items (λ i. HasByteNames i.kind) names.symbols)

  writable : (i : Item) → Writes i → IsWritable (item_as ids i)
  writable i w = record {
    kind = kind_limited ids body.entries i.kind w.0.known w.0.read.limited;
    language = kind_language ids body.entries i.kind w.0.known;
    loc = w.0.read.place;
    names = w.1;
  }

  all_writable : All IsWritable (items_of f.blocks)
  all_writable = all_as ids body.entries Writes IsWritable writable bs writes

  all_readable : All (IsReadableItem meta) (items_of f.blocks)
  all_readable = all_as ids body.entries (λ i. Writes i × Readable i) (IsReadableItem meta) (λ i w. record { writable = writable i w.0; readable = w.1 }) bs
      (both_items Writes Readable bs writes readable)

  abbrev HasConstant : Item → Type 0
  HasConstant i = IfSome (constant_of i.kind) (λ k. is_met k body.constants ≡ true)

  abbrev HasNumber : Item → Type 0
  HasNumber i = IfSome (number_of i.kind) (λ k. is_met k body.numbers ≡ true)

  abbrev HasVariable : Item → Type 0
  HasVariable i = VariableIn body.variables i.kind

  small_ids : All (λ (b : Block). b.id ≤ MAX_NUMBER) f.blocks
  small_ids = blocks_small ids bs (subst (λ (ns : List ℕ). All (λ k. k ≤ MAX_NUMBER) ns) is.ids (ids_small false meta doc.body body read))

  within : AreWithin f.blocks
  within = record {
    apart = sound.blocks_apart;
    ids = small_ids;
    once = sound.numbers;
    few_blocks = sound.few_blocks;
    few_items = (let same = same_length ids body.entries bs in omega (arith, same, is.counted, is.few));
    few_variables = record {
      among = body.variables;
      few = known.few_variables;
      all = all_as ids body.entries HasVariable HasVariable (λ i has. same_variable ids body.entries body.variables i.kind has) bs
          (split_items HasVariable bs known.variables);
    };
    few_numbers = record {
      among = body.numbers;
      few = known.few_numbers;
      all = all_as ids body.entries HasNumber HasNumber
          (λ i has. subst (λ (o : Option ℕ). IfSome o (λ k. is_met k body.numbers ≡ true)) (sym (same_number ids body.entries i.kind)) has) bs
          (split_items HasNumber bs known.numbers);
    };
    few_constants = record {
      among = body.constants;
      few = known.few;
      all = all_as ids body.entries (λ i. Knows i × HasConstant i) (λ i. IfSome (judged_constant i.kind) (λ k. is_met k body.constants ≡ true))
          (λ i has. subst (λ (o : Option ℕ). IfSome o (λ k. is_met k body.constants ≡ true)) (sym (same_constant ids body.entries i.kind has.0)) has.1) bs
          (both_items Knows HasConstant bs knows (split_items HasConstant bs known.constants));
    };
  }

  abbrev printed : Document
  printed = document_of f d.substitutions

  abbrev doc2 : FunctionDocument
  doc2 = document_at n printed

  reads : ReadsBlocks meta doc2.body f.blocks
  reads = bodies_read_back meta f.blocks doc2.body (texts_are _ (body_lines f.blocks)) all_readable within

  -- ---- its frame

  abbrev body2 : Body
  body2 = reads.body

  same_named : (m : ℕ) → is_met m body2.objects ≡ is_met m body.objects
  same_named m = reads.objects m ∙ (blocks_named ids body.entries m bs knows ∙ sym (known.objects m))

  frame : IsReadBack body.objects body2.objects d.stack
  frame = frames_read_back body.objects body2.objects d.stack entries same_named

  abbrev declared2 : Declarations
  declared2 = record {
    name = d.name;
    stack = entries_again body.objects d.stack;
    fixed = [];
    substitutions = d.substitutions;
    pool = [];
    exposure = Nothing;
  }

  abbrev ids2 : List ℕ
  ids2 = ids_of_objects body2.objects declared2.stack

  same_ids : (m : ℕ) → is_met m ids2 ≡ is_met m ids
  same_ids m = ids_are_objects body2.objects m declared2.stack
      ∙ (ap (λ (os : List func.Object). is_some (object_of os m)) frame.objects ∙ sym (ids_are_objects body.objects m d.stack))

  blocks : blocks_as ids2 (blocks_of body2) ≡ f.blocks
  blocks = ap (blocks_as ids2) reads.made ∙ blocks_again ids body.entries ids2 same_ids (ComesFromLine false meta body) bs is.blocks knows

  same_function : function_of declared2 body2 ≡ f
  same_function = λ i. record { name = d.name; slots = frame.slots i; objects = frame.objects i; blocks = blocks i }

  -- ---- what it declares

  declares : declarations_of doc2 ≡ Ok declared2
  declares =
      let name = names_read_back (n + 1) d.name names.name in
      let stack = stacks_read_back (n + 2) f.slots f.objects frame.declared.each frame.declared.several frame.declared.apart
      frame.declared.few in
      let subs = substitutions_read_back (n + 2 + length printed.stack) d.substitutions (declares_small doc d declared).substitutions
      (substitutions_new doc d declared) in
      λ i. checked (earlier (earlier (earlier (name i).refused (stack i).refused) (earlier (no_fixed i) (subs i).refused)) None)
      (record {
        name = (name i).name;
        stack = (stack i).entries;
        fixed = [];
        substitutions = (subs i).entries;
        pool = [];
        exposure = Nothing;
      })

  -- ---- its close

  branches : blocks_go_to body2.ids (blocks_of body2) ≡ true
  branches =
      let same = reads.ids ∙ (ids_as ids body.entries bs ∙ sym is.ids) in
      (λ i. blocks_go_to (same i) (reads.made i)) ∙ blocks_go ids body.entries body.ids bs knows closed.branches

  all_entries : all_met (entry_ids declared2.stack) body2.entries ≡ true
  all_entries = ap (all_met (entry_ids declared2.stack)) reads.entries
      ∙ all_declared (entry_ids declared2.stack) (items_of f.blocks)
      (all_as ids body.entries Good (λ (x : Item). all_met (entry_ids declared2.stack) (entries_named x) ≡ true)
      (λ i g. kind_declared ids body.entries (entry_ids declared2.stack)
      (λ m met. frame.ids m (declared_if_met (entry_ids d.stack) body.entries closed.entries m met)) i.kind i g.known g.read.named) bs good)

  accesses : is_some (parts_of false body2.objects declared2.stack [] (blocks_of body2)) ≡ true
  accesses = parts_some (stays false (laid_out body2.objects declared2.stack [] (blocks_of body2))) (laid_out body2.objects declared2.stack [] (blocks_of body2))
      ∙ ((λ i. blocks_stay false (frame.objects i) (blocks i)) ∙ closed.accesses)

  constants : are_known [] (blocks_of body2) ≡ true
  constants = plain_known meta doc2.body body2 reads.read []

  none : closing_cause false declared2 body2 ≡ None
  none = no_cause (blocks_go_to body2.ids (blocks_of body2)) (all_met (entry_ids declared2.stack) body2.entries)
      (are_known [] (blocks_of body2) && is_some (parts_of false body2.objects declared2.stack [] (blocks_of body2))) branches all_entries
      (and_from (are_known [] (blocks_of body2)) (is_some (parts_of false body2.objects declared2.stack [] (blocks_of body2))) constants accesses)

  function_read : Parses meta doc2 (Ok (record { func = f; subs = d.substitutions; pool = []; exposure = Nothing }))
  function_read =
      let answer : Result Parsed ParseError = Ok (record { func = f; subs = d.substitutions; pool = []; exposure = Nothing }) in
      subst (λ (r : Result Declarations Refusal). ParsesParts false doc2.closed r (body_of false meta doc2.body) answer) (sym declares)
      (subst (λ (r : Result Body Refusal). ParsesParts false doc2.closed (Ok declared2) r answer) (sym reads.read)
      (none, sym same_function, refl, subst EndWell (sym blocks) closes.3, refl, refl))

  is_document : IsDocument printed
  is_document = document_is f d.substitutions names.name frame.declared.each (declares_small doc d declared).substitutions small_ids all_writable

-- ---- a function

pub found_alone : (f : Document) → IsDocument f →
    documents_of false (text_of_lines (document_lines f)) ≡ record { meta = []; functions = document_at 1 f ∷ []; bad = None }
unfolding documents_at
found_alone f is =
    ap (λ (ls : List (List ℕ)). documents_of false (text_of_lines ls)) (sym (append-nil (document_lines f)))
    ∙ documents_read_back (f ∷ []) (All-cons IsDocument f [] is (All-nil IsDocument))

read_as_printed : (meta : Maps) (doc : FunctionDocument) (d : Declarations) (body : Body) (p : Parsed) → declarations_of doc ≡ Ok (unfixed d) →
    doc.linked ≡ false → body_of false meta doc.body ≡ Ok body → Closes false doc.closed (unfixed d) body (Ok p) → Parses meta doc (Ok p) →
    HasNamesOfBytes (function_of (unfixed d) body) →
    IsReadAsPrinted meta (record { func = function_of (unfixed d) body; subs = d.substitutions; pool = []; exposure = Nothing })
read_as_printed meta doc d body p declared plain read closes parses names =
    let whole = document_of (function_of (unfixed d) body) d.substitutions in
    record {
      document = document_at 1 whole;
      found = ap (documents_of false) (sym (function_fed (function_of (unfixed d) body) d.substitutions (objects_unfixed body.objects d.stack)))
          ∙ found_alone whole (is_document meta doc d body p declared plain read closes parses names 1);
      reads = function_read meta doc d body p declared plain read closes parses names 1;
    }

by_parts : (meta : Maps) (doc : FunctionDocument) (p : Parsed) (d : Result Declarations Refusal) (body : Result Body Refusal) →
    declarations_of doc ≡ d → doc.linked ≡ false → body_of false meta doc.body ≡ body → ParsesParts false doc.closed d body (Ok p) → Parses meta doc (Ok p) →
    HasNamesOfBytes p.func →
    IsReadAsPrinted meta p
by_parts meta doc p (Ok d) (Ok body) declared plain read closes parses names =
    let exposes : Nothing ≡ p.exposure = sym (closes.4 ∙ exposes_nothing doc d declared plain) in
    let without : [] ≡ p.pool = sym (closes.5 ∙ plain_pool doc d declared plain) in
    let unfixed_too = unfixed_is doc d declared plain in
    let own = subst (λ (x : Declarations). Closes false doc.closed x body (Ok p)) unfixed_too closes in
    let same : record { func = function_of (unfixed d) body; subs = d.substitutions; pool = []; exposure = Nothing } ≡ p =
    λ i. record { func = sym own.1 i; subs = sym own.2 i; pool = without i; exposure = exposes i } in
    subst (IsReadAsPrinted meta) same (read_as_printed meta doc d body p (declared ∙ ap (λ (x : Declarations). Ok x) unfixed_too) plain read own parses
    (subst HasNamesOfBytes own.1 names))
by_parts meta doc p (Ok d) (Err s) declared plain read refused parses names = absurd refused
by_parts meta doc p (Err r) (Ok body) declared plain read refused parses names = absurd refused
by_parts meta doc p (Err r) (Err s) declared plain read refused parses names = absurd refused

-- ---- a program

pub printed_functions_are_read : PrintedFunctionsAreRead
printed_functions_are_read text p bytes reads =
    let docs = documents_of false text in
    let meta = metadata_of docs.meta in
    let from = program_is meta docs.bad reads.0 p reads.2 in
    subst (λ (m : Maps). All (IsReadAsPrinted m) p.functions) (sym from.maps)
    (All-weaker (λ q. WasRead DocBytes meta q × HasNamesOfBytes q.func) (IsReadAsPrinted meta)
    (λ q was. by_parts meta was.0.doc q (declarations_of was.0.doc) (body_of was.0.doc.linked meta was.0.doc.body) refl was.0.is.plain
    (ap (λ (b : Bool). body_of b meta was.0.doc.body) (sym was.0.is.plain))
    (subst (λ (b : Bool). ParsesParts b was.0.doc.closed (declarations_of was.0.doc) (body_of was.0.doc.linked meta was.0.doc.body) (Ok q)) was.0.is.plain
    was.0.parses) was.0.parses was.1) p.functions
    (both (WasRead DocBytes meta) (λ (q : Parsed). HasNamesOfBytes q.func) p.functions (program_read text p bytes reads).1
    (names_are_of_bytes text p bytes reads)))
