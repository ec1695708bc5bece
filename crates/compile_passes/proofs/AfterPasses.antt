-- What linear scan and passes make of a function that was read can be compiled: it follows its source, its listing is printable, and it has few items. And
-- they may run on such a function: its numbers and slots are low.
use Rattle.std.proofs.Common.{◌≡◌, inl, inr, ℕ, ◌+◌, ◌*◌, ◌<◌, ◌≤◌, ◌^◌, List, [], ◌∷◌, ◌++◌, length, Option, Some, None, refl, sym, subst, arith}
use Rattle.std.proofs.Common.{ap, ◌∙◌, append_assoc}
use Rattle.std.specs.Prelude.{All, Contains, IfSome}
use Rattle.std.specs.List.{flat_map}
use Rattle.std.proofs.Math.Nat.{le_trans}
use Rattle.std.proofs.lemmas.List.Sums.{count_by-le-length}
use Rattle.std.proofs.lemmas.List.Elements.{All-nil, All-cons, All-head, All-tail, All-append, All-weaker, All-contains, All-contains_itself}
use Rattle.std.proofs.lemmas.List.Elements.{Contains-append_left, Contains-append_right}
use Rattle.rv64_instr.specs.declared.place.Place.{Place}
use Rattle.rv64_instr.specs.declared.place.Place.TheVariants.{Register, Slot, Const}
use Rattle.read_metadata.specs.Maps.{Maps}
use Rattle.listing_proof.specs.read_body.Limits.{MAX_ITEMS}
use Rattle.mir_func.specs.declared.block.Block.{Block}
use Rattle.mir_func.specs.declared.debug_substitution.DebugSubstitution.{DebugSubstitution}
use Rattle.mir_func.specs.declared.item.Item.{Item}
use Rattle.mir_func.specs.declared.item.ItemKind.{ItemKind}
use Rattle.mir_func.specs.declared.item.ItemKind.TheVariants.{Code, Mark, Phi}
use Rattle.mir_func.specs.declared.location.Loc.{Loc}
use Rattle.mir_func.specs.declared.object.Object.{Object}
use Rattle.mir_func.specs.declared.variable.MarkValue.TheVariants.{Nothing, Constant, At, Pair}
use Rattle.mir_func.specs.declared.variable.VarId.{VarId}
use Rattle.mir_func.specs.Calls.{is_call_kind}
use Rattle.mir_func.specs.Function.{Function}
use Rattle.mir_func.specs.Limits.{MAX_SLOTS}
use Rattle.base_ids.specs.Limits.{MAX_NUMBER}
use Rattle.mir_func.specs.Resolve.{resolve}
use Rattle.mir_func.specs.Sound.{AllItems, items_of, IsSound, HasForm}
use Rattle.sem_mir.proofs.Reading.{follows_itself, whole_ends_of_itself}
use Rattle.listing_proof.specs.read_program.declared.closing.Parsed.{Parsed}
use Rattle.listing_proof.specs.read_program.Limited.{KindIsLimited, LocIsLimited}
use Rattle.listing_proof.specs.mir_printer.Printable.{IsPrintablePlace, IsPrintableLoc, IsPrintableVariable}
use Rattle.pass_trait.specs.Change.{change}
use Rattle.pass_trait.specs.declared.loss.Loss.{Loss}
use Rattle.pass_trait.specs.Simulation.{Source, SimulatesSource, EndsAsSource, PreservesSimulation}
use Rattle.pass_trait.specs.Sizes.{greatest, numbers_of, greatest_number, most_numbers, item_count, call_count, IsPhysical}
use Rattle.listing_proof.specs.listing_text.Shown.{declared_by, IsPrintableEntry}
use Rattle.listing_proof.specs.listing_function.Printable.{IsPrintableNumber, IsPrintableFramedKind}
use Rattle.listing_proof.proofs.Framed.{read_bodies}
use Rattle.listing_proof.specs.Laws.{inlined_in, IsPrintableBlock}
use Rattle.compile_theorem.proofs.Variables.{own_marks}
use Rattle.compile_theorem.specs.Source.{MarksOneOf, PassedFunction}
use Rattle.pass_manager.proofs.Row.{told_steps, after_more, numbers_more, shown_then}
use Rattle.pass_list.specs.declared.kind.PassKind.{PassKind}
use Rattle.pass_manager.specs.Exposed.{left_exposed, KeepsExposed}
use Rattle.pass_manager.specs.Passes.{any_asks, all_keep, Fit, numbers_after, slots_after, KeepsGrowth}
use Rattle.pass_manager.specs.Shown.{HasMark, HasPhi, IsGiven, KeepsShown}
use Rattle.linear_scan.specs.Scanned.{scan_steps}
use Rattle.compile_passes.proofs.Accepted.{MAX_SCANNED, scanned_items, IsAccepted}
use Rattle.compile_passes.specs.steps.Scan.{IsScanOf}
use Rattle.compile_passes.specs.Passed.{MAX_PASSED, steps_of, passes_of, IsMadeBy, IsMadeLosing, IsCompilable, passed_of}
use Rattle.listing_proof.specs.read_proof.Read.{EntryIsLimited, IsReadFunction}
use Rattle.linear_scan.specs.mir_type_facts.Typed.{IsTypedBlock, IsTypedItem, IsTypedKind, IsTypedPlace, IsTypedEntry}
use Rattle.compile_theorem.specs.dwarf_unit.Variables.{variables_of_function}

-- ---- items

all_items : (P Q : Item → Type 0) → ((i : Item) → P i → Q i) → (bs : List Block) → AllItems P bs → AllItems Q bs
all_items P Q to bs all = All-weaker (λ (b : Block). All P b.items) (λ (b : Block). All Q b.items) (λ b is. All-weaker P Q to b.items is) bs all

pub in_order : (P : Item → Type 0) (bs : List Block) → AllItems P bs → All P (items_of bs)
in_order P [] all = All-nil P
in_order P (b ∷ bs) all =
    All-append P b.items (items_of bs) (All-head (λ (x : Block). All P x.items) b bs all)
    (in_order P bs (All-tail (λ (x : Block). All P x.items) b bs all))

pub in_blocks : (P : Item → Type 0) (bs : List Block) → ((i : Item) → Contains (items_of bs) i → P i) → AllItems P bs
in_blocks P [] each = All-nil (λ (b : Block). All P b.items)
in_blocks P (b ∷ bs) each =
    All-cons (λ (x : Block). All P x.items) b bs
    (All-weaker (Contains b.items) P (λ i is. each i (Contains-append_left b.items (items_of bs) i is)) b.items (All-contains_itself b.items))
    (in_blocks P bs (λ i is. each i (Contains-append_right b.items (items_of bs) i is)))

-- ---- low numbers

abbrev Low : ℕ → Type 0
Low n = n ≤ MAX_NUMBER

greatest_low : (ns : List ℕ) → All Low ns → greatest ns ≤ MAX_NUMBER
greatest_low [] all = omega arith
greatest_low (n ∷ ns) all =
    let here : n ≤ MAX_NUMBER = All-head Low n ns all in
    let rest = greatest_low ns (All-tail Low n ns all) in
    omega (arith, here, rest)

all_flat : {X : Type 0} (P : X → Type 0) (g : X → List ℕ) → ((x : X) → P x → All Low (g x)) → (xs : List X) → All P xs → All Low (flat_map g xs)
all_flat P g each [] all = All-nil Low
all_flat P g each (x ∷ xs) all = All-append Low (g x) (flat_map g xs) (each x (All-head P x xs all)) (all_flat P g each xs (All-tail P x xs all))

one_low : (n : ℕ) → n ≤ MAX_NUMBER → All Low (n ∷ [])
one_low n low = All-cons Low n [] low (All-nil Low)

kind_low : (k : ItemKind) → KindIsLimited k → All Low (numbers_of k)
kind_low (Code i (Some k)) is = one_low k is.1
kind_low (Code i None) is = All-nil Low
kind_low (Phi p k) is = one_low k is.1
kind_low (Mark v (Pair q)) is = one_low q.number is.1.0
kind_low (Mark v Nothing) is = All-nil Low
kind_low (Mark v (Constant n)) is = All-nil Low
kind_low (Mark v (At r)) is = All-nil Low

entry_low : (e : DebugSubstitution) → EntryIsLimited e → All Low (e.src.number ∷ e.dst.number ∷ [])
entry_low e is = All-cons Low e.src.number (e.dst.number ∷ []) is.src.0 (one_low e.dst.number is.dst.0)

abbrev Limited : Item → Type 0
Limited i = KindIsLimited i.kind × LocIsLimited i.loc

-- the numbers of a function that was read, with its substitutions
numbers_low : (meta : Maps) (q : Parsed) → IsReadFunction meta q.func → All EntryIsLimited q.subs → greatest_number q.func q.subs ≤ MAX_NUMBER
numbers_low meta q read subs =
    greatest_low (flat_map (λ i. numbers_of i.kind) (items_of q.func.blocks) ++ flat_map (λ e. e.src.number ∷ e.dst.number ∷ []) q.subs)
    (All-append Low (flat_map (λ i. numbers_of i.kind) (items_of q.func.blocks)) (flat_map (λ e. e.src.number ∷ e.dst.number ∷ []) q.subs)
    (all_flat Limited (λ (i : Item). numbers_of i.kind) (λ i is. kind_low i.kind is.0) (items_of q.func.blocks) (in_order Limited q.func.blocks read.limited))
    (all_flat EntryIsLimited (λ (e : DebugSubstitution). e.src.number ∷ e.dst.number ∷ []) entry_low q.subs subs))

-- ---- linear scan and passes may run

-- the function that was read, or a copy of it
module _ (meta : Maps) (q : Parsed) (read : IsReadFunction meta q.func) (limited : All EntryIsLimited q.subs) where
  scan_has_numbers : greatest_number q.func q.subs + most_numbers 4 1 q.func < 2 ^ 31
  scan_has_numbers =
      let low = numbers_low meta q read limited in
      let few = scanned_items (item_count q.func) read.few_items in
      omega (arith, low, few)

  scan_has_slots : greatest q.func.slots + MAX_SLOTS * 1 < 2 ^ 31
  scan_has_slots = let low = greatest_low q.func.slots read.slots in omega (arith, low)

  pub scan_numbers : (f : Function) (subs : List DebugSubstitution) → f ≡ q.func → subs ≡ q.subs → greatest_number f subs + most_numbers 4 1 f < 2 ^ 31
  scan_numbers f subs same entries_same =
      subst (λ (es : List DebugSubstitution). greatest_number f es + most_numbers 4 1 f < 2 ^ 31) (sym entries_same)
      (subst (λ (g : Function). greatest_number g q.subs + most_numbers 4 1 g < 2 ^ 31) (sym same) scan_has_numbers)

  pub scan_slots : (f : Function) → f ≡ q.func → greatest f.slots + MAX_SLOTS * 1 < 2 ^ 31
  scan_slots f same = subst (λ (g : Function). greatest g.slots + MAX_SLOTS * 1 < 2 ^ 31) (sym same) scan_has_slots

  -- what linear scan makes of it
  module _ (reserve : List ℕ) (passes : List PassKind) (accepted : IsAccepted passes) (g : Function) (gs : List DebugSubstitution) (here : List Loss)
      (scan : IsScanOf reserve (change q.func q.subs g gs) here) where
    few_scanned : item_count g ≤ MAX_SCANNED
    few_scanned = le_trans scan.sizes.items (scanned_items (item_count q.func) read.few_items)

    pub has_numbers : greatest_number g gs + numbers_after passes (item_count g) < 2 ^ 31
    has_numbers =
        let low = numbers_low meta q read limited in
        let grown = scan.sizes.numbers in
        let few = scanned_items (item_count q.func) read.few_items in
        let more = numbers_more passes (item_count g) MAX_SCANNED few_scanned in
        let room = accepted.numbers in
        omega (arith, low, grown, few, more, room)

    pub has_slots : greatest g.slots + MAX_SLOTS * slots_after passes < 2 ^ 31
    has_slots =
        let low = greatest_low q.func.slots read.slots in
        let grown = scan.sizes.slots in
        let room = accepted.slots in
        omega (arith, low, grown, room)

-- ---- what they made

typed_form : (k : ItemKind) → IsTypedKind k → HasForm k
typed_form (Code i k) is = is.0.form
typed_form (Mark v m) is = tt
typed_form (Phi p k) is = tt

entry_prints : (e : DebugSubstitution) → IsTypedEntry e → IsPrintableEntry e
entry_prints e is = record { src = (is.src.number, is.src.operand); dst = (is.dst.number, is.dst.operand); subreg = is.subreg }

abbrev source_read : (meta : Maps) (q : Parsed) → IsReadFunction meta q.func → Source
source_read meta q read = record {
  function = q.func;
  subs = q.subs;
  sound = read.sound;
  read = read.read;
  form = read.form;
}

-- of a function that was read linear scan made one without virtual registers, and passes another one of that
module _ (meta : Maps) (q : Parsed) (reserve : List ℕ) (passes : List PassKind) (g : Function) (gs : List DebugSubstitution) (here : List Loss)
    (f : Function) (subs : List DebugSubstitution) (read : IsReadFunction meta q.func) (scan : IsScanOf reserve (change q.func q.subs g gs) here)
    (physical : IsPhysical g) (sound : IsSound f) (following : PreservesSimulation (any_asks passes) (all_keep passes) (change g gs f subs))
    (growth : KeepsGrowth passes (change g gs f subs)) (after : KeepsShown g f) (typed : All IsTypedBlock f.blocks) (entries : All IsTypedEntry subs) where
  shown : KeepsShown q.func f
  shown = shown_then q.func g f scan.shown after

  abbrev src : Source
  src = source_read meta q read

  itself : SimulatesSource src q.func q.subs
  itself = record { objects = refl; follows = follows_itself q.func.blocks read.read (resolve q.subs) q.func.objects }

  own_ends : EndsAsSource src q.func q.subs
  own_ends = whole_ends_of_itself q.func.blocks read.read (resolve q.subs) q.func.objects

  scanned : SimulatesSource src g gs
  scanned = scan.follows.follows src itself (λ asks. own_ends)

  follows : SimulatesSource src f subs
  follows = following.follows src scanned (λ asks. scan.follows.ends refl src itself own_ends)

  abbrev inlined : ℕ → Option ℕ
  inlined = inlined_in meta

  abbrev Prints : Item → Type 0
  Prints i = IsPrintableFramedKind inlined i.loc i.kind

  abbrev vs : List VarId
  vs = variables_of_function q.func.blocks

  -- the items of the source are printable
  was : (j : Item) → Contains (items_of q.func.blocks) j → Prints j
  was j among =
      let all : AllItems Prints q.func.blocks =
      All-weaker (IsPrintableBlock inlined) (λ (b : Block). All Prints b.items) (λ b is. is.kinds) q.func.blocks (read_bodies meta q.func read).blocks in
      All-contains Prints (items_of q.func.blocks) j (in_order Prints q.func.blocks all) among

  variable_prints : (v : VarId) (l : Loc) → HasMark q.func v l → IsPrintableVariable (declared_by inlined) l v
  variable_prints v l (j, among, (m, is, same)) =
      let here : IsPrintableFramedKind inlined j.loc (Mark v m) = subst (λ (k : ItemKind). IsPrintableFramedKind inlined j.loc k) is (was j among) in
      let there : IsPrintableFramedKind inlined l (Mark v m) = subst (λ (x : Loc). IsPrintableFramedKind inlined x (Mark v m)) same here in
      there.0

  place_was : (x : Place) → HasPhi q.func x → IsPrintablePlace (Some x)
  place_was x (j, among, (k, is)) =
      let here : IsPrintableFramedKind inlined j.loc (Phi (Some x) k) = subst (λ (z : ItemKind). IsPrintableFramedKind inlined j.loc z) is (was j among) in
      here.0

  given_prints : (x : Place) → IsGiven x → IsTypedPlace x → IsPrintablePlace (Some x)
  given_prints (Register r) given is = (given, is)
  given_prints (Slot n) given is = is
  given_prints (Const c) given is = absurd given

  place_prints : (p : Option Place) (n : ℕ) (i : Item) → i.kind ≡ Phi p n → Contains (items_of f.blocks) i → IfSome p IsTypedPlace → IsPrintablePlace p
  place_prints None n i is among t = tt
  place_prints (Some x) n i is among t = elim (shown.places x (i, among, (n, is))) [ inl there ↦ place_was x there | inr given ↦ given_prints x given t ]

  kind_prints : (i : Item) (k : ItemKind) → i.kind ≡ k → Contains (items_of f.blocks) i → IsTypedKind k → IsPrintableFramedKind inlined i.loc k
  kind_prints i (Code c n) is among t = (t.0.numbers, t.1)
  kind_prints i (Mark v m) is among t = (variable_prints v i.loc (shown.marks v i.loc (i, among, (m, is, refl))), t.1)
  kind_prints i (Phi p n) is among t = (place_prints p n i is among t.0, t.1)

  typed_items : AllItems IsTypedItem f.blocks
  typed_items = All-weaker IsTypedBlock (λ (b : Block). All IsTypedItem b.items) (λ b is. is.items) f.blocks typed

  prints : AllItems Prints f.blocks
  prints = in_blocks Prints f.blocks
      (λ i among. kind_prints i i.kind refl among (All-contains IsTypedItem (items_of f.blocks) i (in_order IsTypedItem f.blocks typed_items) among).kind)

  blocks_print : (bs : List Block) → All IsTypedBlock bs → AllItems Prints bs → All (IsPrintableBlock inlined) bs
  blocks_print [] are all = All-nil (IsPrintableBlock inlined)
  blocks_print (b ∷ bs) are all =
      let here = All-head IsTypedBlock b bs are in
      All-cons (IsPrintableBlock inlined) b bs
      (record {
        id = here.id;
        source_end = here.source_end;
        kinds = All-head (λ (x : Block). All Prints x.items) b bs all;
        locs = All-weaker IsTypedItem (λ (i : Item). IsPrintableLoc i.loc) (λ i is. is.loc) b.items here.items;
      })
      (blocks_print bs (All-tail IsTypedBlock b bs are) (All-tail (λ (x : Block). All Prints x.items) b bs all))

  -- a mark is of a variable that the source marks
  marks_one : (i : Item) (k : ItemKind) → i.kind ≡ k → Contains (items_of f.blocks) i → MarksOneOf vs k
  marks_one i (Code c n) is among = tt
  marks_one i (Phi p n) is among = tt
  marks_one i (Mark v m) is among = of_source (shown.marks v i.loc (i, among, (m, is, refl))) where
    of_source : HasMark q.func v i.loc → MarksOneOf vs (Mark v m)
    of_source (j, there, (n, kind, same)) =
        let own : MarksOneOf vs j.kind =
        All-contains (λ (x : Item). MarksOneOf vs x.kind) (items_of q.func.blocks) j
        (in_order (λ (x : Item). MarksOneOf vs x.kind) q.func.blocks (own_marks q.func.blocks)) there in
        let is_one : MarksOneOf vs (Mark v n) = subst (MarksOneOf vs) kind own in
        is_one

  compilable : IsCompilable meta (passed_of q f subs)
  compilable = record {
    passed = record {
      follower = record {
        read = read.read;
        source_form = read.form;
        form = all_items IsTypedItem (λ i. HasForm i.kind) (λ i is. typed_form i.kind is.kind) f.blocks typed_items;
        sound = sound;
        objects = follows.objects;
        follows = follows.follows;
      };
      name = shown.name;
      physical = growth.physical physical;
      marks = in_blocks (λ i. MarksOneOf vs i.kind) f.blocks (λ i among. marks_one i i.kind refl among);
    };
    shown = shown;
    printable = record {
      objects = subst (λ (os : List Object). All (λ o. IsPrintableNumber o.id o.fixed_offset) os) (sym follows.objects)
          (read_bodies meta q.func read).objects;
      blocks = blocks_print f.blocks typed prints;
    };
    substitutions = All-weaker IsTypedEntry IsPrintableEntry entry_prints subs entries;
  }

-- what the passes made is of few items
module _ (meta : Maps) (q : Parsed) (reserve : List ℕ) (passes : List PassKind) (g : Function) (gs : List DebugSubstitution) (here : List Loss)
    (f : Function) (subs : List DebugSubstitution) (read : IsReadFunction meta q.func) (limited : All EntryIsLimited q.subs) (accepted : IsAccepted passes)
    (scan : IsScanOf reserve (change q.func q.subs g gs) here) where
  pub few_after : KeepsGrowth passes (change g gs f subs) → length (items_of f.blocks) ≤ MAX_PASSED
  few_after growth =
      le_trans growth.items (le_trans (after_more passes (item_count g) MAX_SCANNED
      (few_scanned meta q read limited reserve passes accepted g gs here scan)) accepted.items)

  -- calls are among the items of the source, and none is added
  pub calls_after : KeepsGrowth passes (change g gs f subs) → call_count f ≤ MAX_ITEMS
  calls_after growth =
      let few : item_count q.func ≤ MAX_ITEMS = read.few_items in
      le_trans growth.calls (le_trans scan.sizes.calls (le_trans (count_by-le-length (λ (i : Item). is_call_kind i.kind) (items_of q.func.blocks)) few))

  pub made_after : (later told : List Loss) → KeepsExposed reserve passes q.exposure (change g gs f subs) later → told ≡ here ++ later →
      IsMadeLosing reserve passes (passed_of q f subs) told
  unfolding passes_of
  made_after later told behind joined = record {
    of_steps = here ++ behind.of_steps;
    kept = (g, gs, here, behind.of_steps, scan.kept, behind.kept, refl);
    are = joined ∙ ap (λ (l : List Loss). here ++ l) behind.are ∙ sym (append_assoc here behind.of_steps (left_exposed reserve passes q.exposure f));
  }

  pub compilable_after : IsPhysical g → IsSound f → (Fit passes → PreservesSimulation (any_asks passes) (all_keep passes) (change g gs f subs)) →
      KeepsGrowth passes (change g gs f subs) → KeepsShown g f → All IsTypedBlock f.blocks → All IsTypedEntry subs →
      IsCompilable meta (passed_of q f subs)
  compilable_after physical sound following growth after typed entries =
      compilable meta q reserve passes g gs here f subs read scan physical sound (following accepted.fit) growth after typed entries

-- so their steps made it
pub made_by : (reserve : List ℕ) (passes : List PassKind) (p : PassedFunction) (told : List Loss) → IsMadeLosing reserve passes p told →
    IsMadeBy (steps_of reserve passes) p
unfolding steps_of
made_by reserve passes p told by =
    let more = told_steps (passes_of reserve passes p.source.exposure)
    (change p.source.function p.source.substitutions p.function p.substitutions) by.of_steps by.kept in
    record { losses = more.0; kept = more.1 }
