-- What is read of the lines of blocks that were read.
use Rattle.std.proofs.Common.{◌≡◌, ℕ, suc, ◌+◌, Bool, true, false, cond, eqb, ◌||◌, List, [], ◌∷◌, map, length, All, Option}
use Rattle.std.proofs.Common.{Some, None, refl, sym, ap, ◌∙◌, arith}
use Rattle.std.specs.List.{list_all, list_any, slice_get}
use Rattle.std.specs.Option.{option_map_or}
use Rattle.std.proofs.lemmas.Bool.{and_parts, and_from}
use Rattle.std.proofs.lemmas.List.{length-map, length-append}
use Rattle.std.proofs.lemmas.List.Elements.{All-nil, All-head, All-tail, All-append, All-map, All-weaker}
use Rattle.std.proofs.lemmas.List.Folds.{list_any-append}
use Rattle.rv64_instr.specs.declared.place.Place.{Place}
use Rattle.rv64_instr.specs.declared.place.Place.TheVariants as place
use Rattle.rv64_instr.specs.Instruction.{Instruction}
use Rattle.mir_func.specs.declared.block.Block.{Block}
use Rattle.mir_func.specs.declared.item.Item.{Item}
use Rattle.mir_func.specs.declared.item.ItemKind.{ItemKind}
use Rattle.mir_func.specs.declared.item.ItemKind.TheVariants.{Code, Mark, Phi}
use Rattle.mir_func.specs.declared.location.Loc.{Loc}
use Rattle.mir_func.specs.declared.position.Origin.TheVariants.{Kept}
use Rattle.mir_func.specs.declared.variable.MarkValue.TheVariants.{Nothing, Constant, At, Pair}
use Rattle.mir_func.specs.declared.variable.VarId.{VarId}
use Rattle.mir_func.specs.Exits.{exit_of}
use Rattle.mir_func.specs.Sound.{AllItems, items_of, ids_of, number_of}
use Rattle.read_body.specs.Body.{constant_of, object_named}
use Rattle.read_body.specs.Closing.{goes_to_one_of, item_goes_to, blocks_go_to, all_met}
use Rattle.read_body.specs.FirstUseOrder.{is_met}
use Rattle.read_program.specs.Limited.{PlaceIsLimited, KindIsLimited, IsOfLanguage}
use Rattle.read_program.specs.Objects.{instr_as, place_as, kind_as, item_as, blocks_as}
use Rattle.read_program.proofs.Bodies.{IsReadBlock}
use Rattle.read_program.proofs.Items.{KindNamesAmong}
use Rattle.readback_items.specs.Code.{judged_kind}
use Rattle.readback_items.specs.Body.{item_at, items_from, judged_block, entries_named, names_object, judged_constant, VariableIn}
use Rattle.readback_functions.specs.Known.{names}
use Rattle.readback_functions.proofs.Bodies.{code_declared}
use Rattle.readback_functions.proofs.FunctionCodes.{KnownKind, same_code, code_limited, code_language, code_read, code_plain, code_named}

module _ (ids entries : List ℕ) where
  abbrev Knows : Item → Type 0
  Knows i = KnownKind entries i.kind

  -- ---- what is left as it is where stack entries are objects

  pub same_number : (kind : ItemKind) → number_of (kind_as ids kind) ≡ number_of kind
  same_number (Code c k) = refl
  same_number (Mark v m) = refl
  same_number (Phi p k) = refl

  pub same_variable : (vs : List VarId) (kind : ItemKind) → VariableIn vs kind → VariableIn vs (kind_as ids kind)
  same_variable vs (Code c k) is = tt
  same_variable vs (Mark v m) is = is
  same_variable vs (Phi p k) is = tt

  pub same_constant : (kind : ItemKind) → KnownKind entries kind → judged_constant (kind_as ids kind) ≡ constant_of kind
  same_constant (Code c k) is = ap (λ (x : Instruction). constant_of (Code x k)) (is.again ids)
  same_constant (Mark v m) is = refl
  same_constant (Phi p k) is = refl

  place_limited : (p : Option Place) → PlaceIsLimited p → PlaceIsLimited (place_as ids p)
  place_limited None small = tt
  place_limited (Some (place.Register r)) small = small
  place_limited (Some (place.Const c)) small = small
  place_limited (Some (place.Slot n)) small = by (is_met n ids) where
    by : (b : Bool) → PlaceIsLimited (cond b None (Some (place.Slot n)))
    by true = tt
    by false = small

  pub kind_limited : (kind : ItemKind) → KnownKind entries kind → KindIsLimited kind → KindIsLimited (kind_as ids kind)
  kind_limited (Code c k) is small = (code_limited ids entries c is, small.1)
  kind_limited (Mark v m) is small = small
  kind_limited (Phi p k) is small = (place_limited p small.0, small.1)

  pub kind_language : (kind : ItemKind) → KnownKind entries kind → IsOfLanguage false (kind_as ids kind)
  kind_language (Code c k) is = (code_language ids entries c is, code_read ids entries c is, code_plain ids entries c is)
  kind_language (Mark v m) is = tt
  kind_language (Phi p k) is = tt

  -- ---- objects

  one_named : (n : ℕ) (kind : ItemKind) → KnownKind entries kind →
      option_map_or (λ m. eqb n m) (object_named (judged_kind (kind_as ids kind))) false ≡ names n kind
  one_named n (Code c k) is = ap (λ (x : Instruction). option_map_or (λ m. eqb n m) (object_named (Code x k)) false) (is.again ids)
  one_named n (Mark v m) is = refl
  one_named n (Phi p k) is = refl

  items_named : (n : ℕ) (items : List Item) → All Knows items → list_any (names_object n) (map (item_as ids) items) ≡ list_any (λ i. names n i.kind) items
  items_named n [] all = refl
  items_named n (i ∷ is) all =
      let here = one_named n i.kind (All-head Knows i is all) in
      let rest = items_named n is (All-tail Knows i is all) in
      λ j. here j || rest j

  pub blocks_named : (n : ℕ) (bs : List Block) → AllItems Knows bs →
      list_any (names_object n) (items_of (blocks_as ids bs)) ≡ list_any (λ i. names n i.kind) (items_of bs)
  blocks_named n [] all = refl
  blocks_named n (b ∷ bs) all =
      let here = items_named n b.items (All-head (λ (x : Block). All Knows x.items) b bs all) in
      let rest = blocks_named n bs (All-tail (λ (x : Block). All Knows x.items) b bs all) in
      list_any-append (names_object n) (map (item_as ids) b.items) (items_of (blocks_as ids bs))
      ∙ ((λ j. here j || rest j) ∙ sym (list_any-append (λ (x : Item). names n x.kind) b.items (items_of bs)))

  -- ---- branches

  one_goes : (kind : ItemKind) → KnownKind entries kind → exit_of (judged_kind (kind_as ids kind)) ≡ exit_of kind
  one_goes (Code c k) is = ap (λ (x : Instruction). exit_of (Code x k)) (is.again ids)
  one_goes (Mark v m) is = refl
  one_goes (Phi p k) is = refl

  items_go : (bids : List ℕ) (blk k : ℕ) (items : List Item) → All Knows items → list_all (item_goes_to bids) items ≡ true →
      list_all (item_goes_to bids) (items_from blk k (map (item_as ids) items)) ≡ true
  unfolding items_from
  items_go bids blk k [] all goes = refl
  items_go bids blk k (i ∷ is) all goes =
      let parts = and_parts (item_goes_to bids i) (list_all (item_goes_to bids) is) goes in
      and_from (item_goes_to bids (item_at blk k (item_as ids i))) (list_all (item_goes_to bids) (items_from blk (k + 1) (map (item_as ids) is)))
      (ap (goes_to_one_of bids) (one_goes i.kind (All-head Knows i is all)) ∙ parts.0)
      (items_go bids blk (k + 1) is (All-tail Knows i is all) parts.1)

  pub blocks_go : (bids : List ℕ) (bs : List Block) → AllItems Knows bs → blocks_go_to bids bs ≡ true →
      blocks_go_to bids (map judged_block (blocks_as ids bs)) ≡ true
  blocks_go bids [] all goes = refl
  blocks_go bids (b ∷ bs) all goes =
      let parts = and_parts (list_all (item_goes_to bids) b.items) (blocks_go_to bids bs) goes in
      and_from (list_all (item_goes_to bids) (items_from b.id 0 (map (item_as ids) b.items))) (blocks_go_to bids (map judged_block (blocks_as ids bs)))
      (items_go bids b.id 0 b.items (All-head (λ (x : Block). All Knows x.items) b bs all) parts.0)
      (blocks_go bids bs (All-tail (λ (x : Block). All Knows x.items) b bs all) parts.1)

  -- ---- stack entries

  place_declared : (declared : List ℕ) → ((n : ℕ) → is_met n entries ≡ true → is_met n declared ≡ true) → (p : Option Place) (k : ℕ) (i : Item) →
      KindNamesAmong entries (Phi p k) →
      all_met declared (entries_named (record { kind = Phi (place_as ids p) k; origin = i.origin; loc = i.loc })) ≡ true
  place_declared declared each None k i is = refl
  place_declared declared each (Some (place.Register r)) k i is = refl
  place_declared declared each (Some (place.Const c)) k i is = refl
  place_declared declared each (Some (place.Slot n)) k i is = by (is_met n ids) where
    by : (b : Bool) → all_met declared (entries_named (record { kind = Phi (cond b None (Some (place.Slot n))) k; origin = i.origin; loc = i.loc })) ≡ true
    by true = refl
    by false = and_from (is_met n declared) true (each n is.1) refl

  pub kind_declared : (declared : List ℕ) → ((n : ℕ) → is_met n entries ≡ true → is_met n declared ≡ true) → (kind : ItemKind) (i : Item) →
      KnownKind entries kind → KindNamesAmong entries kind →
      all_met declared (entries_named (record { kind = kind_as ids kind; origin = i.origin; loc = i.loc })) ≡ true
  kind_declared declared each (Code c k) i is named = code_declared entries declared each (instr_as ids c) i.origin i.loc (code_named ids entries c is)
  kind_declared declared each (Mark v Nothing) i is named = refl
  kind_declared declared each (Mark v (Constant c)) i is named = refl
  kind_declared declared each (Mark v (At r)) i is named = refl
  kind_declared declared each (Mark v (Pair q)) i is named = refl
  kind_declared declared each (Phi p k) i is named = place_declared declared each p k i named

  -- ---- the blocks that are read

  module _ (again : List ℕ) (same : (n : ℕ) → is_met n again ≡ is_met n ids) where
    place_again : (p : Option Place) → place_as again (place_as ids p) ≡ place_as ids p
    place_again None = refl
    place_again (Some (place.Register r)) = refl
    place_again (Some (place.Const c)) = refl
    place_again (Some (place.Slot n)) = by (is_met n ids) refl where
      by : (b : Bool) → is_met n ids ≡ b → place_as again (cond b None (Some (place.Slot n))) ≡ cond b None (Some (place.Slot n))
      by true e = refl
      by false e = ap (λ (b : Bool). cond b None (Some (place.Slot n))) (same n ∙ e)

    kind_again : (kind : ItemKind) → KnownKind entries kind → kind_as again (judged_kind (kind_as ids kind)) ≡ kind_as ids kind
    kind_again (Code c k) is = ap (λ (x : Instruction). Code x k) (ap (instr_as again) (is.again ids) ∙ same_code again ids same c)
    kind_again (Mark v m) is = refl
    kind_again (Phi p k) is = ap (λ (x : Option Place). Phi x k) (place_again p)

    items_again : (blk k : ℕ) (items : List Item) → ((j : ℕ) (i : Item) → slice_get items j ≡ Some i → i.origin ≡ Kept (record { block = blk; item = k + j })) →
        All Knows items → map (item_as again) (items_from blk k (map (item_as ids) items)) ≡ map (item_as ids) items
    unfolding items_from
    items_again blk k [] at all = refl
    items_again blk k (i ∷ is) at all =
        let kind = kind_again i.kind (All-head Knows i is all) in
        let first : k ≡ k + 0 = omega arith in
        let origin = ap (λ (n : ℕ). Kept (record { block = blk; item = n })) first ∙ sym (at 0 i refl) in
        let rest = items_again blk (k + 1) is
        (λ j x e. at (suc j) x e ∙ ap (λ (n : ℕ). Kept (record { block = blk; item = n })) (let m : k + suc j ≡ k + 1 + j = omega arith in m))
        (All-tail Knows i is all) in
        λ j. record { kind = kind j; origin = origin j; loc = i.loc } ∷ rest j

    pub blocks_again : (R : ItemKind → Loc → Type 0) (bs : List Block) → All (IsReadBlock R) bs → AllItems Knows bs →
        blocks_as again (map judged_block (blocks_as ids bs)) ≡ blocks_as ids bs
    blocks_again R [] read all = refl
    blocks_again R (b ∷ bs) read all =
        let is = All-head (IsReadBlock R) b bs read in
        let here = items_again b.id 0 b.items
        (λ j i e. is.items j i e ∙ ap (λ (n : ℕ). Kept (record { block = b.id; item = n })) (let m : j ≡ 0 + j = omega arith in m))
        (All-head (λ (x : Block). All Knows x.items) b bs all) in
        let size : length (map (item_as ids) b.items) ≡ b.source_end = length-map b.items (item_as ids) ∙ sym is.source_end in
        let rest = blocks_again R bs (All-tail (IsReadBlock R) b bs read) (All-tail (λ (x : Block). All Knows x.items) b bs all) in
        λ j. record { id = b.id; items = here j; source_end = size j } ∷ rest j

  -- ---- how many

  pub same_length : (bs : List Block) → length (items_of (blocks_as ids bs)) ≡ length (items_of bs)
  same_length [] = refl
  same_length (b ∷ bs) =
      let here = length-map b.items (item_as ids) in
      let rest = same_length bs in
      omega (arith, here, rest, length-append (map (item_as ids) b.items) (items_of (blocks_as ids bs)), length-append b.items (items_of bs))

  pub ids_as : (bs : List Block) → ids_of (blocks_as ids bs) ≡ ids_of bs
  ids_as [] = refl
  ids_as (b ∷ bs) = ap (λ (ns : List ℕ). b.id ∷ ns) (ids_as bs)

  -- what holds of each item of blocks, of the items where entries are objects
  pub all_as : (Q P : Item → Type 0) → ((i : Item) → Q i → P (item_as ids i)) → (bs : List Block) → AllItems Q bs → All P (items_of (blocks_as ids bs))
  all_as Q P each [] all = All-nil P
  all_as Q P each (b ∷ bs) all =
      All-append P (map (item_as ids) b.items) (items_of (blocks_as ids bs))
      (All-map P (item_as ids) b.items (All-weaker Q (λ i. P (item_as ids i)) each b.items (All-head (λ (x : Block). All Q x.items) b bs all)))
      (all_as Q P each bs (All-tail (λ (x : Block). All Q x.items) b bs all))
