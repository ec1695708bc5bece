-- The document of a stripped function is read as that function.
use Rattle.std.proofs.Common.{◌≡◌, ℕ, ◌+◌, ◌≤◌, Bool, true, false, cond, ◌&&◌, List, [], ◌∷◌, map, All, Option, Some, None, Result, Ok, Err}
use Rattle.std.proofs.Common.{refl, sym, ap, subst, ◌∙◌, arith}
use Rattle.std.proofs.lemmas.Bool.{and_parts, and_from}
use Rattle.std.specs.Prelude.{is_some, IfSome}
use Rattle.std.proofs.lemmas.List.Elements.{All-nil, All-cons, All-head, All-tail, All-map, All-weaker}
use Rattle.read_refusal.specs.declared.first.Refusal.{Refusal}
use Rattle.read_refusal.specs.declared.kind.RefusalKind.TheVariants.{StackObject, UnknownBlock}
use Rattle.read_refusal.specs.First.{earlier}
use Rattle.rv64_instr.specs.Instruction.{Instruction}
use Rattle.read_metadata.specs.Maps.{Maps}
use Rattle.base_ids.specs.Limits.{MAX_NUMBER}
use Rattle.read_lexer.specs.declared.line.Line.{Line}
use Rattle.read_documents.specs.declared.parts.FunctionDocument.{FunctionDocument}
use Rattle.mir_exposure.specs.declared.exposure.Exposure.TheVariants.{Nothing}
use Rattle.mir_func.specs.declared.block.Block.{Block}
use Rattle.mir_func.specs.declared.item.Item.{Item}
use Rattle.mir_func.specs.declared.item.ItemKind.TheVariants.{Code}
use Rattle.mir_func.specs.declared.object.Object as func
use Rattle.mir_func.specs.Function.{Function}
use Rattle.mir_func.specs.Objects.{object_of}
use Rattle.mir_func.specs.Sound.{AllItems, items_of, number_of, IsSound}
use Rattle.mir_func.specs.Strip.{stripped_block, stripped}
use Rattle.mir_func.proofs.Stripping.{stripped_sound}
use Rattle.mir_pool.specs.Pool.{constant_ids}
use Rattle.read_declarations.specs.declared.declarations.Declarations.{Declarations}
use Rattle.read_declarations.specs.Declarations.{checked, declarations_of}
use Rattle.read_declarations.specs.Fixed.{fixed_refusal}
use Rattle.read_declarations.proofs.PoolEntries.{plain_fixed}
use Rattle.read_declarations.specs.FlowMapping.{entries_from}
use Rattle.read_declarations.specs.List.{list_in}
use Rattle.read_declarations.specs.Stream.{stream_from}
use Rattle.read_declarations.specs.Substitutions.{substitutions_behind, substitutions_of}
use Rattle.read_body.specs.declared.body.Body.{Body}
use Rattle.read_body.specs.Body.{constant_of, blocks_of}
use Rattle.read_body.specs.Closing.{blocks_go_to, all_met}
use Rattle.read_body.specs.StackEntryKind.{ids_of_objects}
use Rattle.read_body.specs.FirstUseOrder.{is_met}
use Rattle.read_program.specs.declared.closing.Parsed.{Parsed}
use Rattle.read_program.specs.declared.closing.Parts.{Parts}
use Rattle.read_program.specs.declared.error.ParseError.{ParseError}
use Rattle.read_program.specs.BodyLines.{body_of}
use Rattle.read_program.specs.Pool.{are_known}
use Rattle.read_program.specs.Closing.{entry_ids, known_ids, laid_out, stays, parts_of, closing_cause, function_of, EndWell, Closes, ParsesParts, Parses}
use Rattle.read_program.specs.Objects.{instr_as, kind_as, item_as, block_as, blocks_as, blocks_stay}
use Rattle.read_program.proofs.KnownConstants.{plain_known}
use Rattle.read_program.proofs.Bodies.{IsReadBlock, IsReadBody}
use Rattle.read_program.proofs.Comes.{ComesFromLine, plain_body_reads}
use Rattle.read_program.proofs.Entries.{declared_if_met, ids_are_objects}
use Rattle.read_program.proofs.Lists.{both, All-front}
use Rattle.read_program.proofs.Soundness.{sound_if_ends_well}
use Rattle.read_program.proofs.Stack.{IsReadEntry, declared_stack}
use Rattle.read_proof.proofs.Labels.{ids_small, blocks_small}
use Rattle.read_proof.proofs.Numbers.{HasSmallId, declares_small}
use Rattle.readback_items.specs.Laws.{HasByteNames, IsWritable}
use Rattle.readback_items.specs.Body.{body_lines, texts_of, entries_named, judged_constant, VariableIn, IsReadableItem, AreWithin, ReadsBlocks}
use Rattle.readback_items.proofs.Bodies.{bodies_read_back}
use Rattle.readback_items.proofs.Room.{all_behind}
use Rattle.readback_functions.specs.Document.{lines_from, IsDocument, document_at}
use Rattle.readback_functions.specs.Declared.{IsEntry}
use Rattle.readback_functions.proofs.DeclarationNames.{names_read_back}
use Rattle.readback_functions.proofs.Stacks.{stacks_read_back}
use Rattle.readback_functions.specs.Frame.{AreDeclared, entries_again, IsReadBack}
use Rattle.readback_functions.proofs.Frames.{frames_read_back}
use Rattle.readback_functions.specs.Known.{IsKnown}
use Rattle.readback_functions.proofs.Known.{bodies_are_known}
use Rattle.readback_functions.specs.Stripped.{placed_block, placed, document_of, HasNamesOfBytes, IsReadAgain, StrippedReadsBack}
use Rattle.readback_functions.proofs.FunctionDocuments.{document_is}
use Rattle.readback_functions.proofs.FunctionCodes.{KnownKind, IsKnownItem, item_known, code_limited, code_language, code_read, code_plain, code_named}
use Rattle.readback_functions.proofs.FunctionCodes.{code_is}
use Rattle.readback_functions.proofs.Bodies.{left_blocks, blocks_left, fewer, ids_left, blocks_named, blocks_go, blocks_read, all_stay, all_end, last_placed}
use Rattle.readback_functions.proofs.Bodies.{code_declared, all_declared}

-- ---- lists

pub split_items : (P : Item → Type 0) (bs : List Block) → All P (items_of bs) → AllItems P bs
split_items P [] all = All-nil (λ (b : Block). All P b.items)
split_items P (b ∷ bs) all = All-cons (λ (x : Block). All P x.items) b bs (All-front P b.items (items_of bs) all)
    (split_items P bs (all_behind P b.items (items_of bs) all))

pub unmapped : {X Y : Type 0} (P : Y → Type 0) (g : X → Y) (xs : List X) → All P (map g xs) → All (λ x. P (g x)) xs
unmapped P g [] all = All-nil (λ x. P (g x))
unmapped P g (x ∷ xs) all = All-cons (λ y. P (g y)) x xs (All-head P (g x) (map g xs) all) (unmapped P g xs (All-tail P (g x) (map g xs) all))

pub both_items : (P Q : Item → Type 0) (bs : List Block) → AllItems P bs → AllItems Q bs → AllItems (λ i. P i × Q i) bs
both_items P Q bs p q = All-weaker (λ (b : Block). All P b.items × All Q b.items) (λ (b : Block). All (λ i. P i × Q i) b.items)
    (λ b each. both P Q b.items each.0 each.1) bs (both (λ (b : Block). All P b.items) (λ (b : Block). All Q b.items) bs p q)

pub weaker_items : (P Q : Item → Type 0) → ((i : Item) → P i → Q i) → (bs : List Block) → AllItems P bs → AllItems Q bs
weaker_items P Q each bs all = All-weaker (λ (b : Block). All P b.items) (λ (b : Block). All Q b.items) (λ b is. All-weaker P Q each b.items is) bs all

pub texts_are : (n : ℕ) (texts : List (List ℕ)) → texts_of (lines_from n texts) ≡ texts
texts_are n [] = refl
texts_are n (t ∷ ts) = ap (λ (l : List (List ℕ)). t ∷ l) (texts_are (n + 1) ts)

-- ---- no cause

pub record ClosesAll (d : Declarations) (body : Body) : Type 0 where
  pub branches : blocks_go_to body.ids (blocks_of body) ≡ true
  pub entries : all_met (known_ids d) body.entries ≡ true
  pub accesses : stays false (laid_out body.objects d.stack d.fixed (blocks_of body)) ≡ true

pub parts_some : (b : Bool) (parts : Parts) → is_some (cond b (Some parts) None) ≡ b
parts_some true parts = refl
parts_some false parts = refl

pub closes_all : (d : Declarations) (body : Body) → closing_cause false d body ≡ None → ClosesAll d body
closes_all d body none =
    by (blocks_go_to body.ids (blocks_of body)) (all_met (known_ids d) body.entries) (known && is_some parts) refl refl refl none where
      parts : Option Parts
      parts = parts_of false body.objects d.stack d.fixed (blocks_of body)

      known : Bool
      known = are_known (constant_ids d.pool) (blocks_of body)

      by : (a b c : Bool) → blocks_go_to body.ids (blocks_of body) ≡ a → all_met (known_ids d) body.entries ≡ b → (known && is_some parts) ≡ c →
          cond a (cond (b && c) None (Some StackObject)) (Some UnknownBlock) ≡ None → ClosesAll d body
      by true true true p q r e = record {
        branches = p;
        entries = q;
        accesses = sym (parts_some (stays false (laid_out body.objects d.stack d.fixed (blocks_of body))) (laid_out body.objects d.stack d.fixed (blocks_of body)))
            ∙ (and_parts known (is_some parts) r).1;
      }
      by true true false p q r e = absurd cc
      by true false c p q r e = absurd cc
      by false b c p q r e = absurd cc

pub no_cause : (a b c : Bool) → a ≡ true → b ≡ true → c ≡ true → cond a (cond (b && c) None (Some StackObject)) (Some UnknownBlock) ≡ None
no_cause a b c p q r = λ i. cond (p i) (cond (q i && r i) None (Some StackObject)) (Some UnknownBlock)

-- ---- what is declared besides

pub no_fixed : fixed_refusal [] ≡ None
unfolding list_in entries_from stream_from
no_fixed = refl

no_substitutions : substitutions_of [] ≡ record { entries = []; refused = None }
unfolding list_in entries_from stream_from substitutions_behind
no_substitutions = refl

-- declarations without fixed objects, which the linked language alone has
abbrev pub unfixed : Declarations → Declarations
unfixed d = record d { fixed = [] }

pub unfixed_is : (doc : FunctionDocument) (d : Declarations) → declarations_of doc ≡ Ok d → doc.linked ≡ false → d ≡ unfixed d
unfixed_is doc d declared plain =
    let none = plain_fixed doc d declared plain in
    λ i. record {
      name = d.name;
      stack = d.stack;
      fixed = none i;
      substitutions = d.substitutions;
      pool = d.pool;
      exposure = d.exposure;
    }

-- ---- a function

module _ (meta : Maps) (doc : FunctionDocument) (given : Declarations) (body : Body) (p : Parsed) (declared : declarations_of doc ≡ Ok (unfixed given))
    (plain : doc.linked ≡ false) (read : body_of false meta doc.body ≡ Ok body) (closes : Closes false doc.closed (unfixed given) body (Ok p))
    (names : HasNamesOfBytes (function_of (unfixed given) body)) (again : Maps) (n : ℕ) where
  abbrev d : Declarations
  d = unfixed given

  abbrev ids : List ℕ
  ids = ids_of_objects body.objects d.stack

  abbrev bs : List Block
  bs = blocks_of body

  abbrev f : Function
  f = function_of d body

  abbrev sb : List Block
  sb = left_blocks ids bs

  abbrev Knows : Item → Type 0
  Knows i = KnownKind body.entries i.kind

  abbrev Good : Item → Type 0
  Good i = IsKnownItem body.entries i.kind i.loc

  is : IsReadBody (ComesFromLine false meta body) body
  is = plain_body_reads meta doc.body body read

  known : IsKnown meta (map (λ (l : Line). l.text) doc.body) body
  known = bodies_are_known meta doc.body body read

  sound : IsSound f
  sound = sound_if_ends_well false meta doc d body declared read closes.0 closes.3

  bared : IsSound (stripped f)
  bared = stripped_sound f sound

  closed : ClosesAll d body
  closed = closes_all d body closes.0

  good : AllItems Good bs
  good = All-weaker (IsReadBlock (ComesFromLine false meta body)) (λ (b : Block). All Good b.items)
      (λ b r. All-weaker (λ i. ComesFromLine false meta body i.kind i.loc) Good
      (λ i from. item_known meta body.entries i.kind i.loc from.form from.item from.text from.says from.judged from.kind_is from.loc_is from.entries)
      b.items r.each)
      bs is.blocks

  knows : AllItems Knows bs
  knows = weaker_items Good Knows (λ i g. g.kind_is) bs good

  abbrev NameBytes : Item → Type 0
  NameBytes i = HasByteNames (kind_as ids i.kind)

  named : AllItems NameBytes bs
  named = All-weaker (λ b. All (λ i. HasByteNames i.kind) (block_as ids b).items) (λ (b : Block). All NameBytes b.items)
      (λ b all. unmapped (λ (i : Item). HasByteNames i.kind) (item_as ids) b.items all) bs
      (unmapped (λ (b : Block). All (λ i. HasByteNames i.kind) b.items) (block_as ids) bs names.symbols)

  entries : AreDeclared d.stack
  entries =
      let stack = declared_stack doc d declared in
      record {
        each = All-weaker (λ e. IsReadEntry e × HasSmallId e) IsEntry
            (λ e r. record { id = r.1; size = r.0.size; aligned = r.0.aligned; local = r.0.local }) d.stack
            (both IsReadEntry HasSmallId d.stack stack.each (declares_small doc d declared).stack);
        several = stack.several;
        apart = stack.apart;
        few = stack.few;
      }

  -- ---- the lines of its blocks

  readable : All (IsReadableItem again) (items_of sb)
  readable = blocks_left ids (λ k l. IsKnownItem body.entries k l × HasByteNames (kind_as ids k)) (IsReadableItem again)
      (λ c k o l q. record {
        writable = record {
          kind = (code_limited ids body.entries c q.0.kind_is, tt);
          language = (
            code_language ids body.entries c q.0.kind_is,
            code_read ids body.entries c q.0.kind_is,
            code_plain ids body.entries c q.0.kind_is,
          );
          loc = q.0.place;
          names = q.1;
        };
        readable = code_is ids body.entries c q.0.kind_is;
      }) bs (both_items Good NameBytes bs good named)

  abbrev HasConstant : Item → Type 0
  HasConstant i = IfSome (constant_of i.kind) (λ k. is_met k body.constants ≡ true)

  within : AreWithin sb
  within = record {
    apart = bared.blocks_apart;
    ids = All-map (λ (b : Block). b.id ≤ MAX_NUMBER) stripped_block (blocks_as ids bs)
        (blocks_small ids bs (subst (λ (ns : List ℕ). All (λ k. k ≤ MAX_NUMBER) ns) is.ids (ids_small false meta doc.body body read)));
    once = bared.numbers;
    few_blocks = bared.few_blocks;
    few_items = (let less = fewer ids bs in omega (arith, less, is.counted, is.few));
    few_variables = record {
      among = [];
      few = omega arith;
      all = blocks_left ids (λ k l. Unit {0}) (λ (i : Item). VariableIn [] i.kind) (λ c k o l q. tt) bs any;
    };
    few_numbers = record {
      among = [];
      few = omega arith;
      all = blocks_left ids (λ k l. Unit {0}) (λ (i : Item). IfSome (number_of i.kind) (λ m. is_met m [] ≡ true)) (λ c k o l q. tt) bs any;
    };
    few_constants = record {
      among = body.constants;
      few = known.few;
      all = blocks_left ids (λ k l. KnownKind body.entries k × IfSome (constant_of k) (λ m. is_met m body.constants ≡ true))
          (λ i. IfSome (judged_constant i.kind) (λ m. is_met m body.constants ≡ true))
          (λ c k o l q. subst (λ (x : Instruction). IfSome (constant_of (Code x None)) (λ m. is_met m body.constants ≡ true)) (sym (q.0.again ids)) q.1) bs
          (both_items Knows HasConstant bs knows (split_items HasConstant bs known.constants));
    };
  } where
    any : AllItems (λ i. Unit {0}) bs
    any = weaker_items Good (λ i. Unit {0}) (λ i g. tt) bs good

  reads : ReadsBlocks again (document_at n (document_of (stripped f))).body sb
  reads = bodies_read_back again sb (document_at n (document_of (stripped f))).body (texts_are _ (body_lines sb)) readable within

  -- ---- its frame

  abbrev body2 : Body
  body2 = reads.body

  same_named : (m : ℕ) → is_met m body2.objects ≡ is_met m body.objects
  same_named m = reads.objects m ∙ (blocks_named ids body.entries m bs knows ∙ sym (known.objects m))

  frame : IsReadBack body.objects body2.objects d.stack
  frame = frames_read_back body.objects body2.objects d.stack entries same_named

  abbrev declared2 : Declarations
  declared2 = record { name = d.name; stack = entries_again body.objects d.stack; fixed = []; substitutions = []; pool = []; exposure = Nothing }

  abbrev ids2 : List ℕ
  ids2 = ids_of_objects body2.objects declared2.stack

  same_ids : (m : ℕ) → is_met m ids2 ≡ is_met m ids
  same_ids m = ids_are_objects body2.objects m declared2.stack
      ∙ (ap (λ (os : List func.Object). is_some (object_of os m)) frame.objects ∙ sym (ids_are_objects body.objects m d.stack))

  blocks : blocks_as ids2 (blocks_of body2) ≡ map placed_block sb
  blocks = ap (blocks_as ids2) reads.made ∙ blocks_read ids body.entries ids2 same_ids bs knows

  same_function : function_of declared2 body2 ≡ placed (stripped f)
  same_function = λ i. record { name = d.name; slots = frame.slots i; objects = frame.objects i; blocks = blocks i }

  -- ---- what it declares

  declares : declarations_of (document_at n (document_of (stripped f))) ≡ Ok declared2
  declares =
      let name = names_read_back (n + 1) d.name names.name in
      let stack = stacks_read_back (n + 2) f.slots f.objects frame.declared.each frame.declared.several frame.declared.apart
      frame.declared.few in
      λ i. checked (earlier (earlier (earlier (name i).refused (stack i).refused) (earlier (no_fixed i) (no_substitutions i).refused)) None)
      (record { name = (name i).name; stack = (stack i).entries; fixed = []; substitutions = (no_substitutions i).entries; pool = []; exposure = Nothing })

  -- ---- its close

  ids_are : body2.ids ≡ body.ids
  ids_are = reads.ids ∙ (ids_left ids bs ∙ sym is.ids)

  branches : blocks_go_to body2.ids (blocks_of body2) ≡ true
  branches = (λ i. blocks_go_to (ids_are i) (reads.made i)) ∙ blocks_go ids body.entries body.ids bs knows closed.branches

  all_entries : all_met (entry_ids declared2.stack) body2.entries ≡ true
  all_entries = ap (all_met (entry_ids declared2.stack)) reads.entries
      ∙ all_declared (entry_ids declared2.stack) (items_of sb)
      (blocks_left ids (λ k l. KnownKind body.entries k) (λ (x : Item). all_met (entry_ids declared2.stack) (entries_named x) ≡ true)
      (λ c k o l q. code_declared body.entries (entry_ids declared2.stack)
      (λ m met. frame.ids m (declared_if_met (entry_ids d.stack) body.entries closed.entries m met)) (instr_as ids c) o l
      (code_named ids body.entries c q)) bs knows)

  accesses : is_some (parts_of false body2.objects declared2.stack [] (blocks_of body2)) ≡ true
  accesses = parts_some (stays false (laid_out body2.objects declared2.stack [] (blocks_of body2))) (laid_out body2.objects declared2.stack [] (blocks_of body2))
      ∙ ((λ i. blocks_stay false (frame.objects i) (blocks i)) ∙ all_stay f.objects (blocks_as ids bs) closed.accesses)

  constants : are_known [] (blocks_of body2) ≡ true
  constants = plain_known again (document_at n (document_of (stripped f))).body body2 reads.read []

  none : closing_cause false declared2 body2 ≡ None
  none = no_cause (blocks_go_to body2.ids (blocks_of body2)) (all_met (entry_ids declared2.stack) body2.entries)
      (are_known [] (blocks_of body2) && is_some (parts_of false body2.objects declared2.stack [] (blocks_of body2))) branches all_entries
      (and_from (are_known [] (blocks_of body2)) (is_some (parts_of false body2.objects declared2.stack [] (blocks_of body2))) constants accesses)

  ends : EndWell (function_of declared2 body2).blocks
  ends = subst EndWell (sym blocks) (all_end sb bared.ends, last_placed sb bared.last)

  function_read : Parses again (document_at n (document_of (stripped f)))
      (Ok (record { func = placed (stripped f); subs = []; pool = []; exposure = Nothing }))
  function_read =
      let doc2 = document_at n (document_of (stripped f)) in
      let answer : Result Parsed ParseError = Ok (record { func = placed (stripped f); subs = []; pool = []; exposure = Nothing }) in
      subst (λ (r : Result Declarations Refusal). ParsesParts false doc2.closed r (body_of false again doc2.body) answer) (sym declares)
      (subst (λ (r : Result Body Refusal). ParsesParts false doc2.closed (Ok declared2) r answer) (sym reads.read)
      (none, sym same_function, refl, ends, refl, refl))

module _ (meta : Maps) (doc : FunctionDocument) (given : Declarations) (body : Body) (p : Parsed) (declared : declarations_of doc ≡ Ok (unfixed given))
    (plain : doc.linked ≡ false) (read : body_of false meta doc.body ≡ Ok body) (closes : Closes false doc.closed (unfixed given) body (Ok p))
    (names : HasNamesOfBytes (function_of (unfixed given) body)) where
  abbrev own : Declarations
  own = unfixed given

  written : All IsWritable (items_of (left_blocks (ids_of_objects body.objects own.stack) (blocks_of body)))
  written = blocks_left (ids_of_objects body.objects own.stack)
      (λ k l. IsKnownItem body.entries k l × HasByteNames (kind_as (ids_of_objects body.objects own.stack) k)) IsWritable
      (λ c k o l q. record {
        kind = (code_limited (ids_of_objects body.objects own.stack) body.entries c q.0.kind_is, tt);
        language = (
          code_language (ids_of_objects body.objects own.stack) body.entries c q.0.kind_is,
          code_read (ids_of_objects body.objects own.stack) body.entries c q.0.kind_is,
          code_plain (ids_of_objects body.objects own.stack) body.entries c q.0.kind_is,
        );
        loc = q.0.place;
        names = q.1;
      })
      (blocks_of body)
      (both_items (Good meta doc given body p declared plain read closes names meta 0) (NameBytes meta doc given body p declared plain read closes names meta 0)
      (blocks_of body)
      (good meta doc given body p declared plain read closes names meta 0) (named meta doc given body p declared plain read closes names meta 0))

  is_document : IsDocument (document_of (stripped (function_of own body)))
  is_document =
      let frame = frames_read_back body.objects body.objects own.stack (entries meta doc given body p declared plain read closes names meta 0) (λ m. refl) in
      document_is own.name (function_of own body).slots (function_of own body).objects (left_blocks (ids_of_objects body.objects own.stack) (blocks_of body))
      names.name
      frame.declared.each (within meta doc given body p declared plain read closes names meta 0).ids written

  read_again : IsReadAgain (record { func = function_of own body; subs = p.subs; pool = p.pool; exposure = p.exposure })
  read_again = record {
    document = is_document;
    parses = λ again n. function_read meta doc given body p declared plain read closes names again n;
  }

by_parts : (meta : Maps) (doc : FunctionDocument) (p : Parsed) (d : Result Declarations Refusal) (body : Result Body Refusal) →
    declarations_of doc ≡ d → doc.linked ≡ false → body_of false meta doc.body ≡ body → ParsesParts false doc.closed d body (Ok p) → HasNamesOfBytes p.func →
    IsReadAgain p
by_parts meta doc p (Ok d) (Ok body) declared plain read closes names =
    let same = unfixed_is doc d declared plain in
    let own = subst (λ (x : Declarations). Closes false doc.closed x body (Ok p)) same closes in
    subst (λ (g : Function). IsReadAgain (record { func = g; subs = p.subs; pool = p.pool; exposure = p.exposure })) (sym own.1)
    (read_again meta doc d body p (declared ∙ ap (λ (x : Declarations). Ok x) same) plain read own (subst HasNamesOfBytes own.1 names))
by_parts meta doc p (Ok d) (Err s) declared plain read refused names = absurd refused
by_parts meta doc p (Err r) (Ok body) declared plain read refused names = absurd refused
by_parts meta doc p (Err r) (Err s) declared plain read refused names = absurd refused

pub functions_read_back : StrippedReadsBack
functions_read_back meta doc p plain parses names =
    by_parts meta doc p (declarations_of doc) (body_of doc.linked meta doc.body) refl plain
    (ap (λ (b : Bool). body_of b meta doc.body) (sym plain))
    (subst (λ (b : Bool). ParsesParts b doc.closed (declarations_of doc) (body_of doc.linked meta doc.body) (Ok p)) plain parses) names
