-- What is left of blocks without their debug items, and what is read of their lines.
use Rattle.std.proofs.Common.{◌≡◌, ℕ, suc, ◌+◌, ◌≤◌, Bool, true, false, not, eqb, ◌||◌, List, [], ◌∷◌, map, length, All, Option, None}
use Rattle.std.proofs.Common.{refl, sym, ap, ◌∙◌, arith}
use Rattle.std.specs.Prelude.{filter}
use Rattle.std.specs.List.{list_all, list_any, flat_map, cons_option}
use Rattle.std.specs.Option.{option_map_or}
use Rattle.std.proofs.lemmas.Bool.{and_parts, and_from}
use Rattle.std.proofs.lemmas.List.{length-append}
use Rattle.std.proofs.lemmas.List.Elements.{All-nil, All-cons, All-head, All-tail, All-append, All-filter, All-weaker}
use Rattle.std.proofs.lemmas.List.Folds.{list_any-append, list_all-append}
use Rattle.rv64_instr.specs.declared.operand.Operand.{Operand}
use Rattle.rv64_instr.specs.declared.operand.Operand.TheVariants.{Slot, Object}
use Rattle.rv64_instr.specs.Instruction.{Instruction}
use Rattle.mir_func.specs.declared.block.Block.{Block}
use Rattle.mir_func.specs.declared.item.Item.{Item}
use Rattle.mir_func.specs.declared.item.ItemKind.{ItemKind}
use Rattle.mir_func.specs.declared.item.ItemKind.TheVariants.{Code, Mark, Phi}
use Rattle.mir_func.specs.declared.location.Loc.{Loc}
use Rattle.mir_func.specs.declared.object.Object as func
use Rattle.mir_func.specs.declared.position.Origin.{Origin}
use Rattle.mir_func.specs.declared.position.Origin.TheVariants.{Kept}
use Rattle.mir_func.specs.declared.exit.Exit.{Exit}
use Rattle.mir_func.specs.declared.exit.Exit.TheVariants.{Onward, Perhaps, Always, Final}
use Rattle.mir_func.specs.Exits.{exit_of}
use Rattle.mir_func.specs.Sound.{AllItems, items_of, ids_of, IsJumpAtMost, MayFollow, EndsWell, Closes, LastCloses}
use Rattle.mir_func.specs.Strip.{bare, stripped_items, stripped_block, stripped_blocks}
use Rattle.read_item.specs.Judge.{entry_of, entries_of}
use Rattle.read_body.specs.Body.{object_named}
use Rattle.read_body.specs.Closing.{goes_to_one_of, item_goes_to, blocks_go_to, all_met}
use Rattle.read_body.specs.FirstUseOrder.{is_met}
use Rattle.read_program.specs.Objects.{instr_as, kind_as, item_as, blocks_as, kind_stays, block_stays, blocks_stay}
use Rattle.read_program.proofs.Operands.{NamesAmong}
use Rattle.mir_printer.specs.Spelling.{is_definition}
use Rattle.readback_items.specs.Forms.{operand_form}
use Rattle.readback_items.specs.Body.{item_at, items_from, judged_block, entries_named, names_object}
use Rattle.readback_functions.specs.Known.{names}
use Rattle.readback_functions.specs.Stripped.{placed_items, placed_block}
use Rattle.readback_functions.proofs.FunctionCodes.{KnownKind, same_code}

-- ---- items that are left

module _ (ids : List ℕ) where
  -- the code of items, where these entries are objects
  abbrev pub left : List Item → List Item
  left items = stripped_items (map (item_as ids) items)

  -- blocks with their code alone
  abbrev pub left_blocks : List Block → List Block
  left_blocks bs = stripped_blocks (blocks_as ids bs)

  module _ (Q : ItemKind → Loc → Type 0) (P : Item → Type 0)
      (each : (c : Instruction) (k : Option ℕ) (o : Origin) (l : Loc) → Q (Code c k) l →
      P (record { kind = Code (instr_as ids c) None; origin = o; loc = l })) where
    one_left : (kind : ItemKind) (o : Origin) (l : Loc) (rest : List Item) → Q kind l → All P rest → All P (cons_option (bare (kind_as ids kind) o l) rest)
    one_left (Code c k) o l rest q all = All-cons P (record { kind = Code (instr_as ids c) None; origin = o; loc = l }) rest (each c k o l q) all
    one_left (Mark v m) o l rest q all = all
    one_left (Phi p k) o l rest q all = all

    all_left : (items : List Item) → All (λ i. Q i.kind i.loc) items → All P (left items)
    all_left [] all = All-nil P
    all_left (i ∷ is) all = one_left i.kind i.origin i.loc (left is) (All-head (λ (x : Item). Q x.kind x.loc) i is all)
        (all_left is (All-tail (λ (x : Item). Q x.kind x.loc) i is all))

    pub blocks_left : (bs : List Block) → AllItems (λ i. Q i.kind i.loc) bs → All P (items_of (left_blocks bs))
    blocks_left [] all = All-nil P
    blocks_left (b ∷ bs) all = All-append P (left b.items) (items_of (left_blocks bs))
        (all_left b.items (All-head (λ (x : Block). All (λ i. Q i.kind i.loc) x.items) b bs all))
        (blocks_left bs (All-tail (λ (x : Block). All (λ i. Q i.kind i.loc) x.items) b bs all))

  -- ---- how many

  one_fewer : (kind : ItemKind) (o : Origin) (l : Loc) (rest : List Item) (n : ℕ) → length rest ≤ n →
      length (cons_option (bare (kind_as ids kind) o l) rest) ≤ suc n
  one_fewer (Code c k) o l rest n few = omega (arith, few)
  one_fewer (Mark v m) o l rest n few = omega (arith, few)
  one_fewer (Phi p k) o l rest n few = omega (arith, few)

  few_left : (items : List Item) → length (left items) ≤ length items
  few_left [] = omega arith
  few_left (i ∷ is) = one_fewer i.kind i.origin i.loc (left is) (length is) (few_left is)

  pub fewer : (bs : List Block) → length (items_of (left_blocks bs)) ≤ length (items_of bs)
  fewer [] = omega arith
  fewer (b ∷ bs) =
      let here = few_left b.items in
      let rest = fewer bs in
      omega (arith, here, rest, length-append (left b.items) (items_of (left_blocks bs)), length-append b.items (items_of bs))

  pub ids_left : (bs : List Block) → ids_of (left_blocks bs) ≡ ids_of bs
  ids_left [] = refl
  ids_left (b ∷ bs) = ap (λ (ns : List ℕ). b.id ∷ ns) (ids_left bs)

  -- ---- by what is known of each item

  module _ (entries : List ℕ) where
    abbrev Knows : Item → Type 0
    Knows i = KnownKind entries i.kind

    -- objects
    one_named : (n : ℕ) (kind : ItemKind) (o : Origin) (l : Loc) (rest : List Item) (b : Bool) → KnownKind entries kind →
        list_any (names_object n) rest ≡ b → list_any (names_object n) (cons_option (bare (kind_as ids kind) o l) rest) ≡ (names n kind || b)
    one_named n (Code c k) o l rest b is e = λ i. option_map_or (λ m. eqb n m) (object_named (Code (is.again ids i) None)) false || e i
    one_named n (Mark v m) o l rest b is e = e
    one_named n (Phi p k) o l rest b is e = e

    named_left : (n : ℕ) (items : List Item) → All Knows items → list_any (names_object n) (left items) ≡ list_any (λ i. names n i.kind) items
    named_left n [] all = refl
    named_left n (i ∷ is) all = one_named n i.kind i.origin i.loc (left is) (list_any (λ (x : Item). names n x.kind) is) (All-head Knows i is all)
        (named_left n is (All-tail Knows i is all))

    pub blocks_named : (n : ℕ) (bs : List Block) → AllItems Knows bs →
        list_any (names_object n) (items_of (left_blocks bs)) ≡ list_any (λ i. names n i.kind) (items_of bs)
    blocks_named n [] all = refl
    blocks_named n (b ∷ bs) all =
        let here = named_left n b.items (All-head (λ (x : Block). All Knows x.items) b bs all) in
        let rest = blocks_named n bs (All-tail (λ (x : Block). All Knows x.items) b bs all) in
        list_any-append (names_object n) (left b.items) (items_of (left_blocks bs))
        ∙ ((λ i. here i || rest i) ∙ sym (list_any-append (λ (x : Item). names n x.kind) b.items (items_of bs)))

    -- branches
    one_goes : (bids : List ℕ) (blk k : ℕ) (kind : ItemKind) (o : Origin) (l : Loc) (rest : List Item) → KnownKind entries kind →
        goes_to_one_of bids (exit_of kind) ≡ true → ((j : ℕ) → list_all (item_goes_to bids) (items_from blk j rest) ≡ true) →
        list_all (item_goes_to bids) (items_from blk k (cons_option (bare (kind_as ids kind) o l) rest)) ≡ true
    unfolding items_from
    one_goes bids blk k (Code c x) o l rest is here later =
        and_from (item_goes_to bids (item_at blk k (record { kind = Code (instr_as ids c) None; origin = o; loc = l })))
        (list_all (item_goes_to bids) (items_from blk (k + 1) rest))
        (ap (λ (d : Instruction). goes_to_one_of bids (exit_of (Code d None))) (is.again ids) ∙ here) (later (k + 1))
    one_goes bids blk k (Mark v m) o l rest is here later = later k
    one_goes bids blk k (Phi p x) o l rest is here later = later k

    goes_left : (bids : List ℕ) (blk k : ℕ) (items : List Item) → All Knows items → list_all (item_goes_to bids) items ≡ true →
        list_all (item_goes_to bids) (items_from blk k (left items)) ≡ true
    unfolding items_from
    goes_left bids blk k [] all goes = refl
    goes_left bids blk k (i ∷ is) all goes =
        let parts = and_parts (item_goes_to bids i) (list_all (item_goes_to bids) is) goes in
        one_goes bids blk k i.kind i.origin i.loc (left is) (All-head Knows i is all) parts.0
        (λ j. goes_left bids blk j is (All-tail Knows i is all) parts.1)

    pub blocks_go : (bids : List ℕ) (bs : List Block) → AllItems Knows bs → blocks_go_to bids bs ≡ true →
        blocks_go_to bids (map judged_block (left_blocks bs)) ≡ true
    blocks_go bids [] all goes = refl
    blocks_go bids (b ∷ bs) all goes =
        let parts = and_parts (list_all (item_goes_to bids) b.items) (blocks_go_to bids bs) goes in
        and_from (list_all (item_goes_to bids) (items_from b.id 0 (left b.items))) (blocks_go_to bids (map judged_block (left_blocks bs)))
        (goes_left bids b.id 0 b.items (All-head (λ (x : Block). All Knows x.items) b bs all) parts.0)
        (blocks_go bids bs (All-tail (λ (x : Block). All Knows x.items) b bs all) parts.1)

    -- the blocks that are read
    module _ (again : List ℕ) (same : (n : ℕ) → is_met n again ≡ is_met n ids) where
      one_read : (blk k : ℕ) (kind : ItemKind) (o : Origin) (l : Loc) (rest : List Item) → KnownKind entries kind →
          ((j : ℕ) → map (item_as again) (items_from blk j rest) ≡ placed_items blk j rest) →
          map (item_as again) (items_from blk k (cons_option (bare (kind_as ids kind) o l) rest))
          ≡ placed_items blk k (cons_option (bare (kind_as ids kind) o l) rest)
      unfolding items_from placed_items
      one_read blk k (Code c x) o l rest is later =
          let code = ap (instr_as again) (is.again ids) ∙ same_code again ids same c in
          λ i. record { kind = Code (code i) None; origin = Kept (record { block = blk; item = k }); loc = l } ∷ later (k + 1) i
      one_read blk k (Mark v m) o l rest is later = later k
      one_read blk k (Phi p x) o l rest is later = later k

      read_left : (blk k : ℕ) (items : List Item) → All Knows items → map (item_as again) (items_from blk k (left items)) ≡ placed_items blk k (left items)
      unfolding items_from placed_items
      read_left blk k [] all = refl
      read_left blk k (i ∷ is) all = one_read blk k i.kind i.origin i.loc (left is) (All-head Knows i is all)
          (λ j. read_left blk j is (All-tail Knows i is all))

      pub blocks_read : (bs : List Block) → AllItems Knows bs → blocks_as again (map judged_block (left_blocks bs)) ≡ map placed_block (left_blocks bs)
      blocks_read [] all = refl
      blocks_read (b ∷ bs) all =
          let here = read_left b.id 0 b.items (All-head (λ (x : Block). All Knows x.items) b bs all) in
          let rest = blocks_read bs (All-tail (λ (x : Block). All Knows x.items) b bs all) in
          λ i. record { id = b.id; items = here i; source_end = length (left b.items) } ∷ rest i

-- ---- accesses

one_stays : (os : List func.Object) (blk k : ℕ) (kind : ItemKind) (o : Origin) (l : Loc) (rest : List Item) → kind_stays false os kind ≡ true →
    ((j : ℕ) → list_all (λ (i : Item). kind_stays false os i.kind) (placed_items blk j rest) ≡ true) →
    list_all (λ (i : Item). kind_stays false os i.kind) (placed_items blk k (cons_option (bare kind o l) rest)) ≡ true
unfolding placed_items
one_stays os blk k (Code c x) o l rest here later =
    and_from (kind_stays false os (Code c None)) (list_all (λ (i : Item). kind_stays false os i.kind) (placed_items blk (k + 1) rest)) here (later (k + 1))
one_stays os blk k (Mark v m) o l rest here later = later k
one_stays os blk k (Phi p x) o l rest here later = later k

items_stay : (os : List func.Object) (blk k : ℕ) (items : List Item) → list_all (λ (i : Item). kind_stays false os i.kind) items ≡ true →
    list_all (λ (i : Item). kind_stays false os i.kind) (placed_items blk k (stripped_items items)) ≡ true
unfolding placed_items
items_stay os blk k [] stays = refl
items_stay os blk k (i ∷ is) stays =
    let parts = and_parts (kind_stays false os i.kind) (list_all (λ (x : Item). kind_stays false os x.kind) is) stays in
    one_stays os blk k i.kind i.origin i.loc (stripped_items is) parts.0 (λ j. items_stay os blk j is parts.1)

pub all_stay : (os : List func.Object) (bs : List Block) → blocks_stay false os bs ≡ true → blocks_stay false os (map placed_block (stripped_blocks bs)) ≡ true
all_stay os [] stays = refl
all_stay os (b ∷ bs) stays =
    let parts = and_parts (block_stays false os b) (blocks_stay false os bs) stays in
    and_from (block_stays false os (placed_block (stripped_block b))) (blocks_stay false os (map placed_block (stripped_blocks bs))) (items_stay os b.id 0 b.items parts.0)
    (all_stay os bs parts.1)

-- ---- ends

jump_placed : (blk k : ℕ) (items : List Item) → IsJumpAtMost items → IsJumpAtMost (placed_items blk k items)
unfolding placed_items
jump_placed blk k [] is = tt
jump_placed blk k (j ∷ []) is = is
jump_placed blk k (j ∷ i ∷ more) is = absurd is

follow_placed : (x : Exit) (blk k : ℕ) (items : List Item) → MayFollow x items → MayFollow x (placed_items blk k items)
unfolding placed_items
follow_placed Onward blk k items is = tt
follow_placed (Perhaps n) blk k items is = jump_placed blk k items is
follow_placed (Always n) blk k items is = ap (placed_items blk k) is
follow_placed Final blk k items is = ap (placed_items blk k) is

ends_placed : (blk k : ℕ) (items : List Item) → EndsWell items → EndsWell (placed_items blk k items)
unfolding placed_items
ends_placed blk k [] is = tt
ends_placed blk k (i ∷ more) is = (follow_placed (exit_of i.kind) blk (k + 1) more is.0, ends_placed blk (k + 1) more is.1)

closes_placed : (blk k : ℕ) (items : List Item) → Closes items → Closes (placed_items blk k items)
unfolding placed_items
closes_placed blk k [] is = is
closes_placed blk k (i ∷ []) is = is
closes_placed blk k (i ∷ j ∷ more) is = closes_placed blk (k + 1) (j ∷ more) is

pub all_end : (bs : List Block) → All (λ b. EndsWell b.items) bs → All (λ b. EndsWell b.items) (map placed_block bs)
all_end [] all = All-nil (λ (b : Block). EndsWell b.items)
all_end (b ∷ bs) all = All-cons (λ (x : Block). EndsWell x.items) (placed_block b) (map placed_block bs)
    (ends_placed b.id 0 b.items (All-head (λ (x : Block). EndsWell x.items) b bs all)) (all_end bs (All-tail (λ (x : Block). EndsWell x.items) b bs all))

pub last_placed : (bs : List Block) → LastCloses bs → LastCloses (map placed_block bs)
last_placed [] is = is
last_placed (b ∷ []) is = closes_placed b.id 0 b.items is
last_placed (b ∷ c ∷ bs) is = last_placed (c ∷ bs) is

-- ---- stack entries that lines name

one_declared : (declared : List ℕ) (o : Operand) (rest : List ℕ) → NamesAmong declared o → all_met declared rest ≡ true →
    all_met declared (cons_option (entry_of (operand_form o)) rest) ≡ true
one_declared declared (Slot n) rest is all = and_from (is_met n declared) (all_met declared rest) is.1 all
one_declared declared (Object n) rest is all = and_from (is_met n declared) (all_met declared rest) is all
one_declared declared _ rest is all = all

operands_declared : (declared : List ℕ) (os : List Operand) → All (NamesAmong declared) os → all_met declared (entries_of (map operand_form os)) ≡ true
operands_declared declared [] all = refl
operands_declared declared (o ∷ os) all = one_declared declared o (entries_of (map operand_form os)) (All-head (NamesAmong declared) o os all)
    (operands_declared declared os (All-tail (NamesAmong declared) o os all))

named_weaker : (entries declared : List ℕ) → ((n : ℕ) → is_met n entries ≡ true → is_met n declared ≡ true) → (o : Operand) → NamesAmong entries o →
    NamesAmong declared o
named_weaker entries declared each (Slot n) is = (is.0, each n is.1)
named_weaker entries declared each (Object n) is = each n is
named_weaker entries declared each _ is = is

pub code_declared : (entries declared : List ℕ) → ((n : ℕ) → is_met n entries ≡ true → is_met n declared ≡ true) → (c : Instruction) (o : Origin) (l : Loc) →
    All (NamesAmong entries) c.operands → all_met declared (entries_named (record { kind = Code c None; origin = o; loc = l })) ≡ true
code_declared entries declared each c o l all =
    operands_declared declared (filter (λ x. not (is_definition x)) c.operands)
    (All-filter (λ x. not (is_definition x)) (NamesAmong declared) c.operands
    (All-weaker (NamesAmong entries) (NamesAmong declared) (named_weaker entries declared each) c.operands all))

pub all_declared : (declared : List ℕ) (items : List Item) → All (λ i. all_met declared (entries_named i) ≡ true) items →
    all_met declared (flat_map entries_named items) ≡ true
all_declared declared [] all = refl
all_declared declared (i ∷ is) all =
    list_all-append (λ (n : ℕ). is_met n declared) (entries_named i) (flat_map entries_named is)
    ∙ and_from (all_met declared (entries_named i)) (all_met declared (flat_map entries_named is))
    (All-head (λ (x : Item). all_met declared (entries_named x) ≡ true) i is all)
    (all_declared declared is (All-tail (λ (x : Item). all_met declared (entries_named x) ≡ true) i is all))
