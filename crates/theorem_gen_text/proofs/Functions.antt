-- The document of a generated function is read as the function, whatever metadata is given.
use Rattle.std.proofs.Common.{◌≡◌, ℕ, zero, suc, ◌+◌, ◌<◌, ◌≤◌, List, [], ◌∷◌, map, None, Result, Ok, Bool, true, false, ◌&&◌, ◌||◌}
use Rattle.std.proofs.Common.{refl, sym, ap, ◌∙◌, subst, eqb, eq-eqb, lit<, lit≤, arith}
use Rattle.std.specs.Prelude.{IfSome, Contains, codes, is_some}
use Rattle.std.specs.List.{All, list_all, list_any}
use Rattle.std.proofs.lemmas.Bool.{and_from}
use Rattle.std.proofs.lemmas.List.Elements.{All-nil, All-cons, All-append, All-head, All-tail, All-weaker}
use Rattle.mir_exposure.specs.declared.exposure.Exposure.TheVariants.{Nothing}
use Rattle.read_refusal.specs.declared.first.Refusal.{Refusal}
use Rattle.read_refusal.specs.First.{earlier}
use Rattle.read_metadata.specs.Maps.{Maps}
use Rattle.base_ids.specs.Limits.{MAX_NUMBER}
use Rattle.read_documents.specs.declared.parts.FunctionDocument.{FunctionDocument}
use Rattle.mir_func.specs.declared.block.Block.{Block}
use Rattle.mir_func.specs.declared.exit.Exit.{Exit}
use Rattle.mir_func.specs.declared.exit.Exit.TheVariants.{Onward, Perhaps, Always, Final}
use Rattle.mir_func.specs.declared.item.Item.{Item}
use Rattle.mir_func.specs.declared.item.ItemKind.{ItemKind}
use Rattle.mir_func.specs.declared.location.Loc.{Loc}
use Rattle.mir_func.specs.declared.location.Loc.TheVariants.{Absent}
use Rattle.mir_func.specs.declared.object.Object as func
use Rattle.mir_func.specs.Function.{Function}
use Rattle.mir_func.specs.Exits.{exit_of}
use Rattle.mir_func.specs.Objects.{object_of}
use Rattle.mir_func.specs.Sound.{AllItems, ExitIn, TargetsIn, LeavesPointer, HasForm, AreApart, ids_of, items_of, number_of}
use Rattle.read_declarations.specs.declared.declarations.Declarations.{Declarations}
use Rattle.read_declarations.specs.declared.stack.StackEntry.{StackEntry}
use Rattle.read_declarations.specs.Declarations.{checked, declarations_of}
use Rattle.read_declarations.specs.FlowMapping.{entries_from}
use Rattle.read_declarations.specs.List.{list_in}
use Rattle.read_declarations.specs.Stream.{stream_from}
use Rattle.read_declarations.specs.Substitutions.{substitutions_behind, substitutions_of}
use Rattle.read_body.specs.declared.body.Body.{Body}
use Rattle.read_body.specs.Body.{blocks_of}
use Rattle.read_body.specs.Closing.{goes_to_one_of, item_goes_to, blocks_go_to, all_met}
use Rattle.read_body.specs.StackEntryKind.{slots_behind, slots_of, objects_behind, objects_of, ids_of_objects}
use Rattle.read_body.specs.FirstUseOrder.{is_met}
use Rattle.read_program.specs.declared.closing.Parsed.{Parsed}
use Rattle.read_program.specs.declared.error.ParseError.{ParseError}
use Rattle.read_program.specs.BodyLines.{body_of}
use Rattle.read_program.specs.Pool.{are_known}
use Rattle.read_program.specs.Closing.{ids_behind, entry_ids, laid_out, stays, parts_of, closing_cause, function_of, EndWell, ParsesParts, Parses}
use Rattle.read_program.specs.Limited.{KindIsLimited, LocIsLimited}
use Rattle.read_program.specs.Objects.{kind_stays, item_as, blocks_as, block_stays, blocks_stay}
use Rattle.read_program.proofs.KnownConstants.{plain_known}
use Rattle.read_program.proofs.Bodies.{IsReadBlock}
use Rattle.read_program.proofs.Entries.{ids_are_objects}
use Rattle.read_proof.specs.Read.{IsReadFunction}
use Rattle.gen_function.specs.Generator.{generated}
use Rattle.gen_program.proofs.Made.{IsMade, IsMadeItem, IsMadeBlock}
use Rattle.gen_program.proofs.Steps.{TOP, generated_made, of_made}
use Rattle.gen_program.proofs.ReadLemmas.{generated_is_read}
use Rattle.readback_items.specs.Code.{IsReadable}
use Rattle.readback_items.specs.Laws.{IsWritable}
use Rattle.readback_items.specs.Body.{body_lines, entries_named, names_object, judged_block, judged_constant, VariableIn, IsReadableItem, AreWithin}
use Rattle.readback_items.specs.Body.{ReadsBlocks}
use Rattle.readback_items.proofs.Bodies.{bodies_read_back}
use Rattle.readback_functions.specs.Document.{Document, document_at}
use Rattle.readback_functions.specs.Declared.{slot_entry, entries_read, IsEntry}
use Rattle.readback_functions.specs.Frame.{AreDeclared, entries_again, IsReadBack}
use Rattle.readback_functions.proofs.DeclarationNames.{names_read_back}
use Rattle.readback_functions.proofs.Stacks.{stacks_read_back}
use Rattle.readback_functions.proofs.Frames.{frames_read_back}
use Rattle.readback_functions.proofs.Bodies.{all_declared}
use Rattle.readback_functions.proofs.FunctionCodes.{KnownKind}
use Rattle.readback_functions.proofs.Functions.{both_items, weaker_items, texts_are, parts_some, no_cause, no_fixed}
use Rattle.theorem_print_read_back.proofs.Texts.{document_of}
use Rattle.theorem_print_read_back.proofs.Bodies.{blocks_go, kind_declared, blocks_again}
use Rattle.theorem_gen_text.proofs.Items.{upto, length_upto, SLOTS, kind_plain, known_made, language_made, named_made, bytes_made, readable_made, number_made}
use Rattle.theorem_gen_text.proofs.Items.{HasLow}
use Rattle.theorem_gen_text.proofs.Items.{low_constant}
use Rattle.theorem_gen_text.proofs.Items.{VARIABLES, variable_made, names_none, stays_made}
use Rattle.theorem_gen_text.proofs.Phis.{PhiIsKept, phis_are_kept}

-- ---- lists

flat : (P : Item → Type 0) (bs : List Block) → AllItems P bs → All P (items_of bs)
flat P [] all = All-nil P
flat P (b ∷ bs) all =
    All-append P b.items (items_of bs) (All-head (λ (x : Block). All P x.items) b bs all)
    (flat P bs (All-tail (λ (x : Block). All P x.items) b bs all))

any_none : (f : Item → Bool) (is : List Item) → All (λ i. f i ≡ false) is → list_any f is ≡ false
any_none f [] all = refl
any_none f (i ∷ is) all =
    let here = All-head (λ (x : Item). f x ≡ false) i is all in
    let rest = any_none f is (All-tail (λ (x : Item). f x ≡ false) i is all) in
    λ j. here j || rest j

all_true : {X : Type 0} (f : X → Bool) (xs : List X) → All (λ (x : X). f x ≡ true) xs → list_all f xs ≡ true
all_true f [] all = refl
all_true {X = X} f (x ∷ xs) all =
    and_from (f x) (list_all f xs) (All-head (λ (y : X). f y ≡ true) x xs all) (all_true f xs (All-tail (λ (y : X). f y ≡ true) x xs all))

contains_met : (ns : List ℕ) (n : ℕ) → Contains ns n → is_met n ns ≡ true
contains_met [] n (k, low, is) = absurd (omega (arith, low))
contains_met (m ∷ ns) n (zero, low, is) = ap (λ (b : Bool). b || is_met n ns) (eq-eqb n m (sym is))
contains_met (m ∷ ns) n (suc k, low, is) = behind (eqb n m) (contains_met ns n (k, omega (arith, low), is)) where
  behind : (b : Bool) → is_met n ns ≡ true → (b || is_met n ns) ≡ true
  behind true e = refl
  behind false e = e

goes_by : (ids : List ℕ) (x : Exit) → ExitIn ids x → goes_to_one_of ids x ≡ true
goes_by ids Onward h = refl
goes_by ids (Perhaps n) h = contains_met ids n h
goes_by ids (Always n) h = contains_met ids n h
goes_by ids Final h = refl

-- ---- what is declared

-- the stack entries
abbrev ENTRIES : List StackEntry
ENTRIES = map slot_entry SLOTS

entries_declared : (apart : AreApart SLOTS) → AreDeclared ENTRIES
entries_declared apart = record {
  each = one 0 (1 ∷ 2 ∷ 3 ∷ []) (lit≤ tt) (one 1 (2 ∷ 3 ∷ []) (lit≤ tt) (one 2 (3 ∷ []) (lit≤ tt) (one 3 [] (lit≤ tt) (All-nil IsEntry))));
  several = λ e. (let bad : 0 ≡ 1 = e in absurd cc);
  apart = apart;
  few = lit≤ tt;
} where
  one : (n : ℕ) (rest : List ℕ) → n ≤ MAX_NUMBER → All IsEntry (map slot_entry rest) → All IsEntry (slot_entry n ∷ map slot_entry rest)
  one n rest small all =
      All-cons IsEntry (slot_entry n) (map slot_entry rest) (record { id = small; size = lit≤ tt; aligned = refl; local = tt }) all

slots_are : slots_of [] ENTRIES ≡ SLOTS
unfolding slots_behind
slots_are = refl

objects_are : (objects_of [] ENTRIES).objects ≡ []
unfolding objects_behind
objects_are = refl

entries_are : entries_again [] ENTRIES ≡ ENTRIES
entries_are = λ i. entries_read (slots_are i) (objects_are i)

ids_are : entry_ids ENTRIES ≡ SLOTS
unfolding ids_behind
ids_are = refl

no_substitutions : substitutions_of [] ≡ record { entries = []; refused = None }
unfolding list_in entries_from stream_from substitutions_behind
no_substitutions = refl

gen_bytes : All (λ b. b < 256) (codes "gen")
gen_bytes = All-cons (λ (b : ℕ). b < 256) 103 (101 ∷ 110 ∷ []) (lit< tt)
    (All-cons (λ (b : ℕ). b < 256) 101 (110 ∷ []) (lit< tt)
    (All-cons (λ (b : ℕ). b < 256) 110 [] (lit< tt) (All-nil (λ (b : ℕ). b < 256))))

-- ---- a function

-- what is known of an item
record IsGood (i : Item) : Type 0 where
  made : IsMade TOP i.kind
  absent : i.loc ≡ Absent
  known : KnownKind SLOTS i.kind
  kept : PhiIsKept i.kind
  limited : KindIsLimited i.kind × LocIsLimited i.loc

module _ (meta : Maps) (number count : ℕ) (some : 1 ≤ count) (few : count ≤ 512) (n : ℕ) where
  abbrev f : Function
  f = generated number count

  abbrev bs : List Block
  bs = f.blocks

  read : IsReadFunction meta f
  read = generated_is_read meta number count some few

  made_blocks : All (IsMadeBlock TOP) bs
  made_blocks = generated_made number count few

  made : AllItems (IsMadeItem TOP) bs
  made = of_made (IsMadeItem TOP) (λ i m. m) number count few

  abbrev Limited : Item → Type 0
  Limited i = KindIsLimited i.kind × LocIsLimited i.loc

  good : AllItems IsGood bs
  good = weaker_items
      (λ i. IsMadeItem TOP i × ((HasForm i.kind × Limited i) × (LeavesPointer i.kind × PhiIsKept i.kind))) IsGood
      (λ i w. record {
        made = w.0.made;
        absent = w.0.absent;
        known = known_made w.0.made w.1.0.0 w.1.0.1.0 (language_made w.0.made) w.1.1.0;
        kept = w.1.1.1;
        limited = w.1.0.1;
      }) bs
      (both_items (IsMadeItem TOP) (λ i. (HasForm i.kind × Limited i) × (LeavesPointer i.kind × PhiIsKept i.kind)) bs made
      (both_items (λ i. HasForm i.kind × Limited i) (λ i. LeavesPointer i.kind × PhiIsKept i.kind) bs
      (both_items (λ i. HasForm i.kind) Limited bs read.form read.limited)
      (both_items (λ i. LeavesPointer i.kind) (λ i. PhiIsKept i.kind) bs read.sound.pointer
      (phis_are_kept count count (record { state = number; given = 0 })))))

  of_good : (P : Item → Type 0) → ((i : Item) → IsGood i → P i) → All P (items_of bs)
  of_good P each = flat P bs (weaker_items IsGood P each bs good)

  abbrev Knows : Item → Type 0
  Knows i = KnownKind SLOTS i.kind

  knows : AllItems Knows bs
  knows = weaker_items IsGood Knows (λ i g. g.known) bs good

  -- ---- the lines of its blocks

  readable : All (IsReadableItem meta) (items_of bs)
  readable = of_good (IsReadableItem meta) (λ i g. record {
    writable = record { kind = g.limited.0; language = language_made g.made; loc = g.limited.1; names = bytes_made g.made };
    readable = subst (λ (l : Loc). IsReadable meta l i.kind) (sym g.absent) (readable_made meta g.made g.known g.kept);
  })

  within : AreWithin bs
  within = record {
    apart = read.sound.blocks_apart;
    ids = read.ids;
    once = read.sound.numbers;
    few_blocks = read.sound.few_blocks;
    few_items = read.few_items;
    few_variables = record { among = VARIABLES; few = lit≤ tt; all = of_good (λ i. VariableIn VARIABLES i.kind) (λ i g. variable_made g.made) };
    few_numbers = record {
      among = upto TOP;
      few = (let long = length_upto TOP in omega (arith, long));
      all = of_good (λ i. IfSome (number_of i.kind) (λ k. is_met k (upto TOP) ≡ true)) (λ i g. number_made g.made);
    };
    few_constants = record {
      among = upto 63;
      few = (let long = length_upto 63 in omega (arith, long));
      all = of_good (λ i. HasLow (judged_constant i.kind)) (λ i g. low_constant g.made g.known);
    };
  }

  abbrev printed : Document
  printed = document_of f []

  abbrev doc : FunctionDocument
  doc = document_at n printed

  reads : ReadsBlocks meta doc.body bs
  reads = bodies_read_back meta bs doc.body (texts_are _ (body_lines bs)) readable within

  abbrev body : Body
  body = reads.body

  -- ---- its frame

  declared : AreDeclared ENTRIES
  declared = entries_declared read.sound.slots_apart

  same_named : (m : ℕ) → is_met m body.objects ≡ is_met m []
  same_named m = reads.objects m ∙ any_none (names_object m) (items_of bs) (of_good (λ i. names_object m i ≡ false) (λ i g. names_none m i g.made g.known))

  frame : IsReadBack [] body.objects ENTRIES
  frame = frames_read_back [] body.objects ENTRIES declared same_named

  slots : slots_of body.objects ENTRIES ≡ SLOTS
  slots = ap (slots_of body.objects) (sym entries_are) ∙ frame.slots ∙ slots_are

  objects : (objects_of body.objects ENTRIES).objects ≡ []
  objects = ap (λ (es : List StackEntry). (objects_of body.objects es).objects) (sym entries_are) ∙ frame.objects ∙ objects_are

  abbrev ids : List ℕ
  ids = ids_of_objects body.objects ENTRIES

  same_ids : (m : ℕ) → is_met m ids ≡ is_met m []
  same_ids m = ids_are_objects body.objects m ENTRIES ∙ ap (λ (os : List func.Object). is_some (object_of os m)) objects

  items_plain : (items : List Item) → All IsGood items → map (item_as []) items ≡ items
  items_plain [] all = refl
  items_plain (i ∷ is) all =
      let kind = kind_plain (All-head IsGood i is all).made in
      let rest = items_plain is (All-tail IsGood i is all) in
      λ j. record { kind = kind j; origin = i.origin; loc = i.loc } ∷ rest j

  blocks_plain : (xs : List Block) → AllItems IsGood xs → blocks_as [] xs ≡ xs
  blocks_plain [] all = refl
  blocks_plain (b ∷ xs) all =
      let here = items_plain b.items (All-head (λ (x : Block). All IsGood x.items) b xs all) in
      let rest = blocks_plain xs (All-tail (λ (x : Block). All IsGood x.items) b xs all) in
      λ j. record { id = b.id; items = here j; source_end = b.source_end } ∷ rest j

  plain : blocks_as [] bs ≡ bs
  plain = blocks_plain bs good

  abbrev Any : ItemKind → Loc → Type 0
  Any k l = Unit {0}

  any_item : (items : List Item) → All (λ i. Any i.kind i.loc) items
  any_item [] = All-nil (λ (i : Item). Any i.kind i.loc)
  any_item (i ∷ is) = All-cons (λ (x : Item). Any x.kind x.loc) i is tt (any_item is)

  read_blocks : All (IsReadBlock Any) bs
  read_blocks = All-weaker (IsMadeBlock TOP) (IsReadBlock Any)
      (λ b m. record { items = m.origins; source_end = m.source_end; each = any_item b.items }) bs made_blocks

  blocks : blocks_as ids (blocks_of body) ≡ bs
  blocks = ap (blocks_as ids) reads.made ∙ ap (λ (xs : List Block). blocks_as ids (map judged_block xs)) (sym plain)
      ∙ blocks_again [] SLOTS ids same_ids Any bs read_blocks knows ∙ plain

  abbrev declares : Declarations
  declares = record { name = codes "gen"; stack = ENTRIES; fixed = []; substitutions = []; pool = []; exposure = Nothing }

  same_function : function_of declares body ≡ f
  same_function = λ i. record { name = codes "gen"; slots = slots i; objects = objects i; blocks = blocks i }

  are_declared : declarations_of doc ≡ Ok declares
  are_declared =
      let name = names_read_back (n + 1) (codes "gen") gen_bytes in
      let stack = stacks_read_back (n + 2) SLOTS [] declared.each declared.several declared.apart declared.few in
      λ i. checked (earlier (earlier (earlier (name i).refused (stack i).refused) (earlier (no_fixed i) (no_substitutions i).refused)) None)
      (record { name = (name i).name; stack = (stack i).entries; fixed = []; substitutions = (no_substitutions i).entries; pool = []; exposure = Nothing })

  -- ---- its close

  goes : blocks_go_to (ids_of bs) bs ≡ true
  goes = all_true (λ (b : Block). list_all (item_goes_to (ids_of bs)) b.items) bs
      (All-weaker (λ (b : Block). All (λ i. TargetsIn (ids_of bs) i.kind) b.items)
      (λ (b : Block). list_all (item_goes_to (ids_of bs)) b.items ≡ true)
      (λ b all. all_true (item_goes_to (ids_of bs)) b.items
      (All-weaker (λ i. TargetsIn (ids_of bs) i.kind) (λ i. item_goes_to (ids_of bs) i ≡ true) (λ i t. goes_by (ids_of bs) (exit_of i.kind) t) b.items all))
      bs read.sound.targets)

  branches : blocks_go_to body.ids (blocks_of body) ≡ true
  branches = (λ i. blocks_go_to (reads.ids i) (reads.made i))
      ∙ ap (λ (xs : List Block). blocks_go_to (ids_of bs) (map judged_block xs)) (sym plain) ∙ blocks_go [] SLOTS (ids_of bs) bs knows goes

  all_entries : all_met (entry_ids ENTRIES) body.entries ≡ true
  all_entries = ap (all_met (entry_ids ENTRIES)) reads.entries
      ∙ all_declared (entry_ids ENTRIES) (items_of bs)
      (of_good (λ i. all_met (entry_ids ENTRIES) (entries_named i) ≡ true)
      (λ i g. subst (λ (k : ItemKind). all_met (entry_ids ENTRIES) (entries_named (record { kind = k; origin = i.origin; loc = i.loc })) ≡ true)
      (kind_plain g.made)
      (kind_declared [] SLOTS (entry_ids ENTRIES) (λ m met. ap (is_met m) ids_are ∙ met) i.kind i g.known (named_made g.made))))

  stay : blocks_stay false [] bs ≡ true
  stay = all_true (block_stays false []) bs
      (All-weaker (λ (b : Block). All IsGood b.items) (λ (b : Block). block_stays false [] b ≡ true)
      (λ b all. all_true (λ (i : Item). kind_stays false [] i.kind) b.items
      (All-weaker IsGood (λ i. kind_stays false [] i.kind ≡ true) (λ i g. stays_made g.made) b.items all)) bs good)

  accesses : is_some (parts_of false body.objects ENTRIES [] (blocks_of body)) ≡ true
  accesses = parts_some (stays false (laid_out body.objects ENTRIES [] (blocks_of body))) (laid_out body.objects ENTRIES [] (blocks_of body))
      ∙ ((λ i. blocks_stay false (objects i) (blocks i)) ∙ stay)

  constants : are_known [] (blocks_of body) ≡ true
  constants = plain_known meta doc.body body reads.read []

  none : closing_cause false declares body ≡ None
  none = no_cause (blocks_go_to body.ids (blocks_of body)) (all_met (entry_ids ENTRIES) body.entries)
      (are_known [] (blocks_of body) && is_some (parts_of false body.objects ENTRIES [] (blocks_of body))) branches all_entries
      (and_from (are_known [] (blocks_of body)) (is_some (parts_of false body.objects ENTRIES [] (blocks_of body))) constants accesses)

  ends : EndWell (function_of declares body).blocks
  ends = subst EndWell (sym blocks) (read.sound.ends, read.sound.last)

  pub function_read : Parses meta doc (Ok (record { func = f; subs = []; pool = []; exposure = Nothing }))
  function_read =
      let answer : Result Parsed ParseError = Ok (record { func = f; subs = []; pool = []; exposure = Nothing }) in
      subst (λ (r : Result Declarations Refusal). ParsesParts false doc.closed r (body_of false meta doc.body) answer) (sym are_declared)
      (subst (λ (r : Result Body Refusal). ParsesParts false doc.closed (Ok declares) r answer) (sym reads.read)
      (none, sym same_function, refl, ends, refl, refl))

  pub all_writable : All IsWritable (items_of bs)
  all_writable = of_good IsWritable (λ i g. record { kind = g.limited.0; language = language_made g.made; loc = g.limited.1; names = bytes_made g.made })

  pub small_ids : All (λ (b : Block). b.id ≤ MAX_NUMBER) bs
  small_ids = read.ids

  pub all_entries_small : All IsEntry (entries_read SLOTS [])
  all_entries_small = declared.each

pub name_bytes : All (λ b. b < 256) (codes "gen")
name_bytes = gen_bytes
