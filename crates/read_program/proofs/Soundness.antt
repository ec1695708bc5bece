-- What was read and breaks no other rule where it closes is sound exactly where its blocks end well.
use Rattle.std.proofs.Common.{◌≡◌, ℕ, ◌+◌, ◌-◌, ◌<◌, ◌≤◌, Bool, true, false, cond, ◌&&◌, ◌||◌, eqb, List, length, All, Option, Some, None, Result, Ok, Err}
use Rattle.std.proofs.Common.{refl, sym, ap, subst, ◌∙◌, arith}
use Rattle.std.specs.Prelude.{Contains, is_some, IfOk}
use Rattle.std.proofs.lemmas.Bool.{eqb-true, and_parts, and_from}
use Rattle.std.proofs.lemmas.List.{length-map}
use Rattle.std.proofs.lemmas.List.Elements.{All-map, All-weaker}
use Rattle.read_refusal.specs.declared.kind.RefusalKind.{RefusalKind}
use Rattle.read_refusal.specs.declared.kind.RefusalKind.TheVariants.{StackObject, UnknownBlock, BlockEnd}
use Rattle.read_metadata.specs.Maps.{Maps}
use Rattle.read_documents.specs.declared.parts.FunctionDocument.{FunctionDocument}
use Rattle.read_refusal.specs.declared.first.Refusal.{Refusal}
use Rattle.mir_func.specs.declared.block.Block.{Block}
use Rattle.mir_func.specs.declared.item.Item.{Item}
use Rattle.mir_func.specs.declared.object.Object.{Object}
use Rattle.mir_func.specs.Limits.{MAX_SLOTS}
use Rattle.base_ids.specs.Limits.{MAX_NUMBER, FIXED}
use Rattle.mir_func.specs.declared.item.ItemKind.{ItemKind}
use Rattle.mir_func.specs.declared.location.Loc.{Loc}
use Rattle.mir_func.specs.Function.{Function}
use Rattle.mir_func.specs.Sound.{AreApart, ids_of, AllItems, TargetsIn, SlotsIn, LeavesPointer, OriginIn, IsSound, KindPassesFirst}
use Rattle.mir_pool.specs.Pool.{constant_ids}
use Rattle.read_body.specs.read_declarations.declared.declarations.Declarations.{Declarations}
use Rattle.read_body.specs.read_declarations.declared.stack.StackEntry.{StackEntry}
use Rattle.read_body.specs.read_declarations.Declarations.{declarations_of}
use Rattle.read_body.specs.read_declarations.Stack.{is_alignment}
use Rattle.read_body.specs.declared.body.Body.{Body}
use Rattle.read_body.specs.Body.{blocks_of}
use Rattle.read_body.specs.Closing.{blocks_go_to, item_goes_to, all_met}
use Rattle.read_body.specs.StackEntryKind.{IsStackEntry, slots_of, objects_of, ids_of_objects}
use Rattle.read_body.specs.FirstUseOrder.{is_met}
use Rattle.read_body.specs.read_declarations.Fixed.{fixed_ids}
use Rattle.read_body.proofs.FixedObjects.{length_with}
use Rattle.read_program.specs.declared.closing.Parsed.{Parsed}
use Rattle.read_program.specs.declared.closing.Parts.{Parts}
use Rattle.read_program.specs.declared.error.ParseError.TheVariants as errors
use Rattle.read_program.specs.BodyLines.{body_of}
use Rattle.read_program.specs.Objects.{item_as, block_as, blocks_as}
use Rattle.read_program.specs.Pool.{are_known}
use Rattle.read_program.specs.Closing.{entry_ids, known_ids, AreEntries, all_objects, laid_out, stays, parts_of, closing_cause, function_of, EndWell}
use Rattle.read_program.specs.Closing.{ClosesWith, Closes}
use Rattle.read_program.proofs.Bodies.{IsReadBlock, IsReadBody}
use Rattle.read_program.proofs.Comes.{EndsFromLine, body_reads}
use Rattle.read_program.proofs.Entries.{declared_if_met}
use Rattle.read_program.proofs.FixedObjects.{laid_with, sound_with, numbers_with, known_entry}
use Rattle.read_program.proofs.Frames.{slots_apart, objects_apart, frame_count, objects_sound, objects_laid, objects_unfixed, objects_low}
use Rattle.read_program.proofs.Items.{IsReadItem}
use Rattle.read_program.proofs.Keeps.{keeps_item}
use Rattle.read_program.proofs.Lists.{both, met_contains}
use Rattle.read_program.proofs.Renamed.{ids_as, blocks_kept}
use Rattle.read_program.proofs.Sound.{targets_as, slots_as, first_as, pointer_as, all_objects_in, once_as, origins_in, all_go}
use Rattle.read_program.proofs.Stack.{IsReadEntry, IsReadStack, IsReadFixed, declared_stack, declared_fixed}

-- ---- declared entries

aligned_small : (align : ℕ) → is_alignment align ≡ true → (0 < align) × (align ≤ 16)
aligned_small align is = by (eqb align 1) (eqb align 2) (eqb align 4) (eqb align 8) (eqb align 16) refl refl refl refl refl is where
  at : (n : ℕ) → eqb align n ≡ true → (0 < n) × (n ≤ 16) → (0 < align) × (align ≤ 16)
  at n e small = subst (λ (m : ℕ). (0 < m) × (m ≤ 16)) (sym (eqb-true align n e)) small

  by : (a b c d e : Bool) → eqb align 1 ≡ a → eqb align 2 ≡ b → eqb align 4 ≡ c → eqb align 8 ≡ d → eqb align 16 ≡ e → (a || (b || (c || (d || e)))) ≡ true →
      (0 < align) × (align ≤ 16)
  by true b c d e p q r s t is = at 1 p (omega arith, omega arith)
  by false true c d e p q r s t is = at 2 q (omega arith, omega arith)
  by false false true d e p q r s t is = at 4 r (omega arith, omega arith)
  by false false false true e p q r s t is = at 8 s (omega arith, omega arith)
  by false false false false true p q r s t is = at 16 t (omega arith, omega arith)
  by false false false false false p q r s t is = absurd cc

entry_is : (e : StackEntry) → IsReadEntry e → IsStackEntry e
entry_is e is = let small = aligned_small e.align is.aligned in record { size = is.size; positive = small.0; aligned = small.1 }

-- what a document declares has room
pub declared_entries : (doc : FunctionDocument) (read : Result Declarations Refusal) → read ≡ declarations_of doc → IfOk read (λ d. AreEntries d.stack)
declared_entries doc (Ok d) e =
    let stack = declared_stack doc d (sym e) in (
      stack.few,
      All-weaker IsReadEntry IsStackEntry entry_is d.stack stack.each,
      λ named. record { each = objects_sound named d.stack stack.each; laid = objects_laid named d.stack stack.each stack.several },
    )
declared_entries doc (Err r) e = tt

-- ---- no cause

record ClosesAll (linked : Bool) (d : Declarations) (body : Body) : Type 0 where
  branches : blocks_go_to body.ids (blocks_of body) ≡ true
  entries : all_met (known_ids d) body.entries ≡ true
  accesses : stays linked (laid_out body.objects d.stack d.fixed (blocks_of body)) ≡ true

parts_some : (b : Bool) (parts : Parts) → is_some (cond b (Some parts) None) ≡ true → b ≡ true
parts_some true parts e = refl
parts_some false parts e = absurd cc

closes_all : (linked : Bool) (d : Declarations) (body : Body) → closing_cause linked d body ≡ None → ClosesAll linked d body
closes_all linked d body none = by (blocks_go_to body.ids (blocks_of body)) (all_met (known_ids d) body.entries) refl refl none where
  parts : Option Parts
  parts = parts_of linked body.objects d.stack d.fixed (blocks_of body)

  known : Bool
  known = are_known (constant_ids d.pool) (blocks_of body)

  made : (c : Bool) → (known && is_some parts) ≡ c → cond c None (Some StackObject) ≡ None → is_some parts ≡ true
  made true is e = (and_parts known (is_some parts) is).1
  made false is e = absurd cc

  by : (a b : Bool) → blocks_go_to body.ids (blocks_of body) ≡ a → all_met (known_ids d) body.entries ≡ b →
      cond a (cond (b && (known && is_some parts)) None (Some StackObject)) (Some UnknownBlock) ≡ None → ClosesAll linked d body
  by true true p q e = record {
    branches = p;
    entries = q;
    accesses = parts_some (stays linked (laid_out body.objects d.stack d.fixed (blocks_of body))) (laid_out body.objects d.stack d.fixed (blocks_of body)) (made
        (known && is_some parts) refl e);
  }
  by true false p q e = absurd cc
  by false b p q e = absurd cc

-- ---- functions

module _ (linked : Bool) (meta : Maps) (d : Declarations) (body : Body) (is : IsReadBody (EndsFromLine linked meta body) body) (stack : IsReadStack d.stack)
    (fixed : IsReadFixed (MAX_SLOTS - length d.stack) d.fixed) (closes : ClosesAll linked d body) where
  abbrev ids : List ℕ
  ids = ids_of_objects body.objects d.stack

  abbrev bs : List Block
  bs = blocks_of body

  great : All (λ n. FIXED ≤ n) (fixed_ids d.fixed)
  great = All-weaker (λ n. (FIXED ≤ n) × (n ≤ FIXED + MAX_NUMBER)) (λ n. FIXED ≤ n) (λ n is. is.0) (fixed_ids d.fixed) fixed.great

  all : (n : ℕ) → n ≤ MAX_NUMBER → is_met n body.entries ≡ true → is_met n (entry_ids d.stack) ≡ true
  all n small is = known_entry n (entry_ids d.stack) d.fixed great small (declared_if_met (known_ids d) body.entries closes.entries n is)

  -- the objects among its stack entries
  abbrev own : List Object
  own = (objects_of body.objects d.stack).objects

  -- an item as it was read, which goes on to blocks that are there
  record IsGood (i : Item) : Type 0 where
    item : IsReadItem linked meta body.entries i.kind i.loc
    goes : item_goes_to body.ids i ≡ true

  item_good : (i : Item) → EndsFromLine linked meta body i.kind i.loc × (item_goes_to body.ids i ≡ true) → IsGood i
  item_good i from = record { item = (keeps_item linked meta body i.kind i.loc from.0).item; goes = from.1 }

  good : AllItems IsGood bs
  good = All-weaker (λ b. IsReadBlock (EndsFromLine linked meta body) b × All (λ i. item_goes_to body.ids i ≡ true) b.items) (λ (b : Block). All IsGood
      b.items)
      (λ b each. All-weaker (λ i. EndsFromLine linked meta body i.kind i.loc × (item_goes_to body.ids i ≡ true)) IsGood item_good b.items
      (both (λ i. EndsFromLine linked meta body i.kind i.loc) (λ i. item_goes_to body.ids i ≡ true) b.items each.0.each each.1)) bs
      (both (IsReadBlock (EndsFromLine linked meta body)) (λ (b : Block). All (λ i. item_goes_to body.ids i ≡ true) b.items) bs is.blocks
      (all_go body.ids bs closes.branches))

  each_as : (P : Item → Type 0) → ((i : Item) → IsGood i → P (item_as ids i)) → AllItems P (blocks_as ids bs)
  each_as P from = All-map (λ (b : Block). All P b.items) (block_as ids) bs
      (All-weaker (λ (b : Block). All IsGood b.items) (λ b. All P (block_as ids b).items)
      (λ b each. All-map P (item_as ids) b.items (All-weaker IsGood (λ i. P (item_as ids i)) from b.items each)) bs good)

  same_ids : ids_of (blocks_as ids bs) ≡ body.ids
  same_ids = ids_as ids bs ∙ sym is.ids

  has_block : (n : ℕ) → is_met n body.ids ≡ true → Contains (ids_of (blocks_as ids bs)) n
  has_block n met = subst (λ (l : List ℕ). Contains l n) (sym same_ids) (met_contains body.ids n met)

  abbrev Any : ItemKind → Loc → Type 0
  Any kind loc = Unit {0}

  read_blocks : All (IsReadBlock Any) (blocks_as ids bs)
  read_blocks = blocks_kept (EndsFromLine linked meta body) Any ids (λ k loc from. tt) bs is.blocks

  function_sound : EndWell (blocks_as ids bs) → IsSound (function_of d body)
  function_sound ends = record {
    blocks_apart = subst AreApart (sym (ids_as ids bs)) is.apart;
    slots_apart = slots_apart body.objects d.stack stack.apart;
    objects_apart = numbers_with own d.fixed (objects_apart body.objects d.stack stack.apart) fixed.apart
        (objects_low body.objects d.stack stack.each) great;
    few_blocks = omega (arith, ap length same_ids, length-map (blocks_as ids bs) (λ (b : Block). b.id), is.few_blocks);
    few_slots = omega (
      arith,
      frame_count body.objects d.stack,
      stack.few,
      fixed.few,
      length_with own d.fixed,
    );
    each_object = sound_with own d.fixed (objects_sound body.objects d.stack stack.each) fixed.each;
    objects_laid = laid_with own d.fixed (objects_unfixed body.objects d.stack) (objects_laid body.objects d.stack stack.each stack.several);
    targets = each_as (λ i. TargetsIn (ids_of (blocks_as ids bs)) i.kind)
        (λ i g. targets_as ids body.ids (ids_of (blocks_as ids bs)) has_block i.kind g.item.form g.goes);
    slots = each_as (λ i. SlotsIn (slots_of body.objects d.stack) i.kind)
        (λ i g. slots_as body.objects d.stack body.entries all i.kind g.item.form g.item.named);
    passed = each_as (λ i. KindPassesFirst (slots_of body.objects d.stack) i.kind)
        (λ i g. first_as body.objects d.stack body.entries all i.kind g.item.form g.item.named);
    objects = all_objects_in linked (all_objects body.objects d.stack d.fixed) (blocks_as ids bs) closes.accesses;
    pointer = each_as (λ i. LeavesPointer i.kind) (λ i g. pointer_as body.objects d.stack body.entries all i.kind g.item.form g.item.pointer);
    numbers = once_as ids bs is.once;
    origins = All-weaker (IsReadBlock Any) (λ (b : Block). All (λ i. OriginIn b i.origin) b.items) (λ b r. origins_in Any b r) (blocks_as ids bs) read_blocks;
    ends = ends.0;
    last = ends.1;
  }

-- what a document says that was read, where nothing else is wrong at its close
module _ (linked : Bool) (meta : Maps) (doc : FunctionDocument) (d : Declarations) (body : Body) (declared : declarations_of doc ≡ Ok d)
    (read : body_of linked meta doc.body ≡ Ok body)
    (none : closing_cause linked d body ≡ None) where
  pub sound_if_ends_well : EndWell (function_of d body).blocks → IsSound (function_of d body)
  sound_if_ends_well =
      function_sound linked meta d body (body_reads linked meta doc.body body read) (declared_stack doc d declared) (declared_fixed doc d declared)
      (closes_all linked d body none)

  -- its function isn't sound: so its blocks don't end well
  pub ends_badly : (line : ℕ) → (IsSound (function_of d body) → ⊥) → Closes linked line d body (Err (errors.Refused (record { line = line; kind = BlockEnd })))
  ends_badly line unsound = subst (λ (c : Option RefusalKind). ClosesWith line (record { line = line; kind = BlockEnd }) c (function_of d body)) (sym none)
      (refl, λ ends. unsound (sound_if_ends_well ends))

-- its function is sound
pub ends_well : (linked : Bool) (line : ℕ) (d : Declarations) (body : Body) (p : Parsed) → closing_cause linked d body ≡ None → IsSound (function_of d body) →
    p.func ≡ function_of d body → p.subs ≡ d.substitutions → p.exposure ≡ d.exposure → p.pool ≡ d.pool → Closes linked line d body (Ok p)
ends_well linked line d body p none sound func subs exposes pool = (none, func, subs, (sound.ends, sound.last), exposes, pool)

-- ---- the steps of a close

-- what is known where nothing is wrong but how blocks end
pub record IsLaidOut (linked : Bool) (d : Declarations) (body : Body) (p : Parts) : Type 0 where
  pub none : closing_cause linked d body ≡ None
  pub parts : p ≡ laid_out body.objects d.stack d.fixed (blocks_of body)

parts_are : (b : Bool) (whole p : Parts) → ◌≡◌ {A = Option Parts} (cond b (Some whole) None) (Some p) → (b ≡ true) × (p ≡ whole)
parts_are true whole p e = (refl, cc)
parts_are false whole p e = absurd cc

cause_none : (a b c : Bool) → a ≡ true → b ≡ true → c ≡ true → cond a (cond (b && c) None (Some StackObject)) (Some UnknownBlock) ≡ None
cause_none true true true p q r = refl
cause_none false b c p q r = absurd cc
cause_none true false c p q r = absurd cc
cause_none true true false p q r = absurd cc

pub laid_by_parts : (linked : Bool) (d : Declarations) (body : Body) (blocks : List Block) (known : List ℕ) (made : Option Parts) (p : Parts) → blocks ≡ blocks_of body →
    blocks_go_to body.ids blocks ≡ true → known ≡ known_ids d → all_met known body.entries ≡ true → are_known (constant_ids d.pool) blocks ≡ true →
    made ≡ parts_of linked body.objects d.stack d.fixed blocks → made ≡ Some p → IsLaidOut linked d body p
laid_by_parts linked d body blocks known made p same goes entries met pool parts is =
    let here : parts_of linked body.objects d.stack d.fixed (blocks_of body) ≡ Some p =
    ap (parts_of linked body.objects d.stack d.fixed) (sym same) ∙ sym parts ∙ is in
    let whole = parts_are (stays linked (laid_out body.objects d.stack d.fixed (blocks_of body))) (laid_out body.objects d.stack d.fixed (blocks_of body)) p here in
    record {
      none = cause_none (blocks_go_to body.ids (blocks_of body)) (all_met (known_ids d) body.entries)
          (are_known (constant_ids d.pool) (blocks_of body) && is_some (parts_of linked body.objects d.stack d.fixed (blocks_of body)))
          (ap (blocks_go_to body.ids) (sym same) ∙ goes) (ap (λ (l : List ℕ). all_met l body.entries) (sym entries) ∙ met)
          (and_from (are_known (constant_ids d.pool) (blocks_of body)) (is_some (parts_of linked body.objects d.stack d.fixed (blocks_of body)))
          (ap (are_known (constant_ids d.pool)) (sym same) ∙ pool) (ap (λ (o : Option Parts). is_some o) here));
      parts = whole.1;
    }

-- the function of a name and of parts
abbrev pub made_of : List ℕ → Parts → Function
made_of name p = record { name = name; slots = p.slots; objects = p.objects; blocks = p.blocks }

made_is : (linked : Bool) (d : Declarations) (body : Body) (p : Parts) → IsLaidOut linked d body p → made_of d.name p ≡ function_of d body
made_is linked d body p is = ap (made_of d.name) is.parts

pub close_well : (linked : Bool) (line : ℕ) (d : Declarations) (body : Body) (p : Parts) (f : Function) → IsLaidOut linked d body p → f ≡ made_of d.name p → IsSound f →
    Closes linked line d body (Ok (record { func = f; subs = d.substitutions; pool = d.pool; exposure = d.exposure }))
close_well linked line d body p f is made sound =
    let same = made ∙ made_is linked d body p is in
    ends_well linked line d body (record { func = f; subs = d.substitutions; pool = d.pool; exposure = d.exposure }) is.none (subst IsSound same sound) same refl refl
    refl

pub close_badly : (linked : Bool) (meta : Maps) (doc : FunctionDocument) (line : ℕ) (d : Declarations) (body : Body) (p : Parts) → declarations_of doc ≡ Ok d →
    body_of linked meta doc.body ≡ Ok body → IsLaidOut linked d body p → (IsSound (made_of d.name p) → ⊥) →
    Closes linked line d body (Err (errors.Refused (record { line = line; kind = BlockEnd })))
close_badly linked meta doc line d body p declared read is unsound =
    ends_badly linked meta doc d body declared read is.none line (λ sound. unsound (subst IsSound (sym (made_is linked d body p is)) sound))
