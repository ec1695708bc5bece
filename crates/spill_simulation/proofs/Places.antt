-- Where the items of a function stand, and those of the function with spilled registers: the order of a block, which code comes next,
-- and from which item of the one each item of the other comes.
use Rattle.std.proofs.Common.{◌≡◌, ◌⊎◌, ℕ, zero, suc, ◌+◌, ◌*◌, ◌<◌, ◌≤◌, List, [], ◌∷◌, ◌++◌, map, drop, length, All, Contains, Option, Some, None, Bool, true}
use Rattle.std.proofs.Common.{false, cond, nat_eq, refl, sym, ap, ◌∙◌, subst, inl, inr, eq-eqb, eqb-true, slice_get, slice_index_or, arith}
use Rattle.std.proofs.Math.Nat.{le_trans}
use Rattle.std.proofs.Math.Seq.{drop-length}
use Rattle.std.proofs.lemmas.Bool.{cases_eq, cases_lt}
use Rattle.std.proofs.lemmas.List.Concat.{flat_map-cons}
use Rattle.std.proofs.lemmas.List.Elements.{All-contains, Contains-append_cases}
use Rattle.mir_func.specs.declared.debug_substitution.OperandPair.{OperandPair}
use Rattle.mir_func.specs.declared.position.Pos.{Pos}
use Rattle.mir_func.specs.declared.position.Origin.{Origin}
use Rattle.mir_func.specs.declared.position.Origin.TheVariants.{Kept, Before}
use Rattle.mir_func.specs.declared.block.Block.{Block}
use Rattle.mir_func.specs.declared.item.Item.{Item}
use Rattle.mir_func.specs.Graph.{Here, EndOfBlock, block_start, end_of, front, fetch_in, from_block, program_of, rest_in, rest_of}
use Rattle.mir_func.specs.Positions.{position_of}
use Rattle.sem_mir.specs.Align.{is_code}
use Rattle.sem_mir.specs.InitialState.{first_of}
use Rattle.sem_mir.specs.Follow.{rank, next_rank, InOrder}
use Rattle.sem_mir.proofs.Reading.{found_in, front_item, item_front, front_end, within_list}
use Rattle.sem_simulation.proofs.Order.{rank_next, same_pos}
use Rattle.spill_code.specs.declared.spilling.SlotAssignment.{SlotAssignment}
use Rattle.spill_code.specs.declared.spilling.Spilling.{Spilling}
use Rattle.spill_code.specs.Rewrite.{spilled_item, spilled_items, spilled_block, entry_stores, first_block, spilled_blocks}

-- ---- the order of a block

pub order_low : (b n : ℕ) (xs : List Item) (k : ℕ) (y : Item) → InOrder b n xs → slice_get xs k ≡ Some y →
    (n ≤ rank y.origin) × ((position_of y.origin).block ≡ b)
order_low b n [] k y o e = cc
order_low b n (x ∷ xs) zero y o e =
    let z : x ≡ y = cc in
    (subst (λ (w : Item). n ≤ rank w.origin) z o.1, subst (λ (w : Item). (position_of w.origin).block ≡ b) z o.0)
order_low b n (x ∷ xs) (suc k) y o e =
    let h = order_low b (next_rank x.origin) xs k y o.2 e in
    (le_trans (rank_next x.origin n o.1) h.0, h.1)

pub order_apart : (b n : ℕ) (xs : List Item) (j k : ℕ) (x y : Item) → InOrder b n xs → slice_get xs j ≡ Some x → slice_get xs k ≡ Some y → j < k →
    next_rank x.origin ≤ rank y.origin
order_apart b n [] j k x y o e f lt = cc
order_apart b n (z ∷ xs) zero zero x y o e f lt = absurd (omega (arith, lt))
order_apart b n (z ∷ xs) zero (suc k) x y o e f lt =
    let w : z ≡ x = cc in
    subst (λ (i : Item). next_rank i.origin ≤ rank y.origin) w (order_low b (next_rank z.origin) xs k y o.2 f).0
order_apart b n (z ∷ xs) (suc j) zero x y o e f lt = absurd (omega (arith, lt))
order_apart b n (z ∷ xs) (suc j) (suc k) x y o e f lt = order_apart b (next_rank z.origin) xs j k x y o.2 e f (omega (arith, lt))

-- of one position one item is kept
pub kept_once : (b n : ℕ) (xs : List Item) (j k : ℕ) (x y : Item) (p : Pos) → InOrder b n xs → slice_get xs j ≡ Some x → slice_get xs k ≡ Some y →
    x.origin ≡ Kept p → y.origin ≡ Kept p → x ≡ y
kept_once b n xs j k x y p o e f kx ky =
    elim (cases_eq j k) as (λ _. x ≡ y) [
      | inl same ↦ (let z : Some x ≡ Some y = sym e ∙ ap (slice_get xs) same ∙ f in cc)
      | inr ne ↦ absurd (elim (cases_lt j k) as (λ _. ⊥) [
        | inl lt ↦ (let h = order_apart b n xs j k x y o e f lt in never x y kx ky h)
        | inr ge ↦ (let h = order_apart b n xs k j y x o f e (omega (arith, ge, ne)) in never y x ky kx h)
      ])
    ] where
      never : (x y : Item) → x.origin ≡ Kept p → y.origin ≡ Kept p → next_rank x.origin ≤ rank y.origin → ⊥
      never x y kx ky h =
          let a : 2 * p.item + 2 ≤ rank y.origin = subst (λ (o : Origin). next_rank o ≤ rank y.origin) kx h in
          let c : 2 * p.item + 2 ≤ 2 * p.item + 1 = subst (λ (o : Origin). 2 * p.item + 2 ≤ rank o) ky a in
          omega (arith, c)

-- the position of the next code
abbrev pub next_code : List Item → Option Pos
next_code [] = None
next_code (x ∷ xs) = cond (is_code x.kind) (Some (position_of x.origin)) (next_code xs)

rank_between : (o : Origin) (p : Pos) → 2 * p.item ≤ rank o → next_rank o ≤ 2 * p.item + 1 → (position_of o).item ≡ p.item
rank_between (Kept q) p lo hi = absurd (omega (arith, lo, hi))
rank_between (Before q) p lo hi = omega (arith, lo, hi)

-- before code that is kept of a position comes only code of that position, where all comes from there on
pub next_code_at : (b n : ℕ) (xs : List Item) (k : ℕ) (y : Item) (p : Pos) → InOrder b n xs → 2 * p.item ≤ n → slice_get xs k ≡ Some y →
    is_code y.kind ≡ true → y.origin ≡ Kept p → p.block ≡ b → next_code xs ≡ Some p
next_code_at b n [] k y p o le e code kept home = cc
next_code_at b n (x ∷ xs) zero y p o le e code kept home =
    let z : y ≡ x = cc in
    subst (λ (w : Item). cond (is_code w.kind) (Some (position_of w.origin)) (next_code xs) ≡ Some p) z
    (ap (λ (t : Bool). cond t (Some (position_of y.origin)) (next_code xs)) code ∙ ap (λ (o : Origin). Some (position_of o)) kept)
next_code_at b n (x ∷ xs) (suc k) y p o le e code kept home =
    by_code (is_code x.kind) refl (next_code_at b (next_rank x.origin) xs k y p o.2 (rank_next x.origin (2 * p.item) (le_trans le o.1)) e code kept home) where
      by_code : (t : Bool) → is_code x.kind ≡ t → next_code xs ≡ Some p → cond t (Some (position_of x.origin)) (next_code xs) ≡ Some p
      by_code false z more = more
      by_code true z more =
          let low = (order_low b (next_rank x.origin) xs k y o.2 e).0 in
          let high : next_rank x.origin ≤ 2 * p.item + 1 = subst (λ (w : Origin). next_rank x.origin ≤ rank w) kept low in
          ap Some (same_pos (position_of x.origin) p (o.0 ∙ sym home) (rank_between x.origin p (le_trans le o.1) high))

-- ---- items of a function

-- the item stands in a block
pub record Stands (blocks : List Block) (q : Pos) (i : Item) : Type 0 where
  pub block : Block
  pub rest : List Block
  pub found : from_block blocks q.block ≡ block ∷ rest
  pub member : Contains blocks block
  pub id : block.id ≡ q.block
  pub at : slice_get block.items q.item ≡ Some i

pub contains_at : {A : Type 0} (xs : List A) (k : ℕ) (x : A) → slice_get xs k ≡ Some x → Contains xs x
contains_at xs k x e = (k, within_list xs k x e, at xs k x e) where
  at : {A : Type 0} (xs : List A) (k : ℕ) (x : A) → slice_get xs k ≡ Some x → slice_index_or xs k x ≡ x
  at [] k x e = cc
  at (y ∷ ys) zero x e = cc
  at (y ∷ ys) (suc k) x e = at ys k x e

at_contained : {A : Type 0} (xs : List A) (x : A) → Contains xs x → (k : ℕ) × (slice_get xs k ≡ Some x)
at_contained [] x (k, lt, e) = absurd (omega (arith, lt))
at_contained (y ∷ ys) x (zero, lt, e) = (0, ap Some e)
at_contained (y ∷ ys) x (suc k, lt, e) = let h = at_contained ys x (k, omega (arith, lt), e) in (suc h.0, h.1)

pub stands_at : (sp : Bool) (blocks : List Block) (resolve : OperandPair → Option OperandPair) (q : Pos) (i : Item) →
    (program_of sp blocks resolve).fetch q ≡ Here i → Stands blocks q i
stands_at sp blocks resolve q i e = by_blocks (from_block blocks q.block) refl e where
  by_blocks : (x : List Block) → from_block blocks q.block ≡ x → fetch_in x q.item ≡ Here i → Stands blocks q i
  by_blocks [] f e = cc
  by_blocks (b ∷ rest) f e =
      let k = found_in blocks q.block b rest f in
      record { block = b; rest = rest; found = f; member = k.0; id = k.1; at = front_item b.items q.item b.source_end rest i e }

pub fetched : (sp : Bool) (blocks : List Block) (resolve : OperandPair → Option OperandPair) (q : Pos) (b : Block) (rest : List Block) (i : Item) →
    from_block blocks q.block ≡ b ∷ rest → slice_get b.items q.item ≡ Some i → (program_of sp blocks resolve).fetch q ≡ Here i
fetched sp blocks resolve q b rest i f e = ap (λ (x : List Block). fetch_in x q.item) f ∙ item_front b.items q.item b.source_end rest i e

-- what holds of each item of each block holds of it
pub holds_at : (P : Block → Item → Type 0) (blocks : List Block) → All (λ (b : Block). All (P b) b.items) blocks → (q : Pos) (i : Item)
    (w : Stands blocks q i) →
    P w.block i
holds_at P blocks all q i w =
    All-contains (P w.block) w.block.items i (All-contains (λ (b : Block). All (P b) b.items) blocks w.block all w.member)
    (contains_at w.block.items q.item i w.at)

pub same_stands : (blocks : List Block) (p q : Pos) (i j : Item) (v : Stands blocks p i) (w : Stands blocks q j) → p.block ≡ q.block → v.block ≡ w.block
same_stands blocks p q i j v w e = let z : v.block ∷ v.rest ≡ w.block ∷ w.rest = sym v.found ∙ ap (from_block blocks) e ∙ w.found in cc

-- ---- items of the function with spilled registers

module _ (s : Spilling) (entry : List SlotAssignment) where
  abbrev pub others : List Block → List Block
  others bs = map (spilled_block s) bs

  from_others : (bs : List Block) (n : ℕ) → from_block (others bs) n ≡ others (from_block bs n)
  from_others [] n = refl
  from_others (b ∷ bs) n = by_test (nat_eq b.id n) (from_others bs n) where
    by_test : (z : Bool) → from_block (others bs) n ≡ others (from_block bs n) →
        cond z (spilled_block s b ∷ others bs) (from_block (others bs) n) ≡ others (cond z (b ∷ bs) (from_block bs n))
    by_test true more = refl
    by_test false more = more

  -- the block with the items that stand before the others
  abbrev pub with_first : List Item → Block → Block
  with_first first b = record { id = b.id; items = first ++ spilled_items s b.items; source_end = b.source_end }

  pub record InG (bs : List Block) (n : ℕ) (b : Block) (rest : List Block) : Type 0 where
    pub first : List Item
    pub at : from_block (spilled_blocks s entry bs) n ≡ with_first first b ∷ others rest
    pub which : (first ≡ []) ⊎ ((first ≡ entry_stores b.id entry) × (n ≡ first_of bs))

  pub in_g : (bs : List Block) (n : ℕ) (b : Block) (rest : List Block) → from_block bs n ≡ b ∷ rest → InG bs n b rest
  in_g [] n b rest e = cc
  in_g (a ∷ bs) n b rest e = by_test (nat_eq a.id n) refl e where
    by_test : (z : Bool) → nat_eq a.id n ≡ z → cond z (a ∷ bs) (from_block bs n) ≡ b ∷ rest → InG (a ∷ bs) n b rest
    by_test true z e =
        let ab : a ≡ b = cc in
        let rs : bs ≡ rest = cc in
        record {
          first = entry_stores b.id entry;
          at = ap (λ (t : Bool). cond t (first_block s entry a ∷ others bs) (from_block (others bs) n)) z ∙ (λ i. first_block s entry (ab i) ∷ others (rs i));
          which = inr (refl, sym (eqb-true a.id n z));
        }
    by_test false z e = record {
      first = [];
      at = ap (λ (t : Bool). cond t (first_block s entry a ∷ others bs) (from_block (others bs) n)) z ∙ from_others bs n ∙ ap others e;
      which = inl refl;
    }

  pub none_in_g : (bs : List Block) (n : ℕ) → from_block bs n ≡ [] → from_block (spilled_blocks s entry bs) n ≡ []
  none_in_g [] n e = refl
  none_in_g (a ∷ bs) n e = by_test (nat_eq a.id n) refl e where
    by_test : (z : Bool) → nat_eq a.id n ≡ z → cond z (a ∷ bs) (from_block bs n) ≡ [] →
        cond (nat_eq a.id n) (first_block s entry a ∷ others bs) (from_block (others bs) n) ≡ []
    by_test true z e = cc
    by_test false z e =
        ap (λ (t : Bool). cond t (first_block s entry a ∷ others bs) (from_block (others bs) n)) z ∙ from_others bs n ∙ ap others e

  -- from which item one comes
  pub from_flat : (xs : List Item) (y : Item) → Contains (spilled_items s xs) y → (x : Item) × Contains xs x × Contains (spilled_item s x) y
  from_flat [] y (k, lt, e) = absurd (omega (arith, lt))
  from_flat (x ∷ xs) y h =
      elim (Contains-append_cases (spilled_item s x) (spilled_items s xs) y (subst (λ (z : List Item). Contains z y) (flat_map-cons (spilled_item s) x xs) h))
      as (λ _. (x' : Item) × Contains (x ∷ xs) x' × Contains (spilled_item s x') y) [
        | inl k ↦ (x, (0, omega arith, refl), k)
        | inr k ↦ (let w = from_flat xs y k in let m = w.1 in (w.0, (suc m.0, (let lt = m.1 in omega (arith, lt)), m.2), w.2))
      ]

  -- a store at the start of the first block, or what stands for an item of the same block
  pub data ComesFrom (bs : List Block) (resolve : OperandPair → Option OperandPair) (q : Pos) (y : Item) : Type 0 where
    from_item : (w : Pos) (x : Item) → w.block ≡ q.block → (program_of false bs resolve).fetch w ≡ Here x → Contains (spilled_item s x) y →
        ComesFrom bs resolve q y
    from_entry : q.block ≡ first_of bs → Contains (entry_stores q.block entry) y → ComesFrom bs resolve q y

  pub comes_from : (bs : List Block) (resolve : OperandPair → Option OperandPair) (q : Pos) (y : Item) →
      (program_of false (spilled_blocks s entry bs) resolve).fetch q ≡ Here y → ComesFrom bs resolve q y
  comes_from bs resolve q y e = by_blocks (from_block bs q.block) refl where
    by_items : (b : Block) (rest : List Block) → from_block bs q.block ≡ b ∷ rest → Contains (spilled_items s b.items) y → ComesFrom bs resolve q y
    by_items b rest f h =
        let w = from_flat b.items y h in
        let k = at_contained b.items w.0 w.1 in
        from_item (record { block = q.block; item = k.0 }) w.0 refl
        (fetched false bs resolve (record { block = q.block; item = k.0 }) b rest w.0 f k.1) w.2

    by_which : (b : Block) (rest : List Block) → from_block bs q.block ≡ b ∷ rest → (first : List Item) →
        (first ≡ []) ⊎ ((first ≡ entry_stores b.id entry) × (q.block ≡ first_of bs)) → Contains first y ⊎ Contains (spilled_items s b.items) y →
        ComesFrom bs resolve q y
    by_which b rest f first which (inr h) = by_items b rest f h
    by_which b rest f first (inl none) (inl h) = absurd (let k = subst (λ (z : List Item). Contains z y) none h in let lt = k.1 in omega (arith, lt))
    by_which b rest f first (inr (is, at)) (inl h) =
        from_entry at (subst (λ (n : ℕ). Contains (entry_stores n entry) y) (found_in bs q.block b rest f).1
        (subst (λ (z : List Item). Contains z y) is h))

    by_blocks : (x : List Block) → from_block bs q.block ≡ x → ComesFrom bs resolve q y
    by_blocks [] f = let bad : fetch_in [] q.item ≡ Here y = sym (ap (λ (x : List Block). fetch_in x q.item) (none_in_g bs q.block f)) ∙ e in cc
    by_blocks (b ∷ rest) f =
        let g = in_g bs q.block b rest f in
        let at : front (drop q.item (g.first ++ spilled_items s b.items)) b.source_end (others rest) ≡ Here y =
        sym (ap (λ (x : List Block). fetch_in x q.item) g.at) ∙ e in
        by_which b rest f g.first g.which
        (Contains-append_cases g.first (spilled_items s b.items) y (contains_at (g.first ++ spilled_items s b.items) q.item y
        (front_item (g.first ++ spilled_items s b.items) q.item b.source_end (others rest) y at)))

  pub end_others : (k : ℕ) (bs : List Block) → end_of k (others bs) ≡ end_of k bs
  end_others k [] = refl
  end_others k (b ∷ bs) = refl

  -- an end of a block is one of the function, and of each position past the items
  pub end_in_f : (bs : List Block) (resolve : OperandPair → Option OperandPair) (q : Pos) (k n : ℕ) →
      (program_of false (spilled_blocks s entry bs) resolve).fetch q ≡ EndOfBlock k n →
      (b : Block) × (rest : List Block) × (from_block bs q.block ≡ b ∷ rest) × (end_of b.source_end rest ≡ EndOfBlock k n)
  end_in_f bs resolve q k n e = by_blocks (from_block bs q.block) refl where
    by_blocks : (x : List Block) → from_block bs q.block ≡ x →
        (b : Block) × (rest : List Block) × (from_block bs q.block ≡ b ∷ rest) × (end_of b.source_end rest ≡ EndOfBlock k n)
    by_blocks [] f = let bad : fetch_in [] q.item ≡ EndOfBlock k n = sym (ap (λ (x : List Block). fetch_in x q.item) (none_in_g bs q.block f)) ∙ e in cc
    by_blocks (b ∷ rest) f =
        let g = in_g bs q.block b rest f in
        let at : front (drop q.item (g.first ++ spilled_items s b.items)) b.source_end (others rest) ≡ EndOfBlock k n =
        sym (ap (λ (x : List Block). fetch_in x q.item) g.at) ∙ e in
        let end = front_end (g.first ++ spilled_items s b.items) q.item b.source_end (others rest) k n at in
        (b, rest, f, sym (end_others b.source_end rest) ∙ end.1)

  pub end_past : (bs : List Block) (resolve : OperandPair → Option OperandPair) (p : Pos) (b : Block) (rest : List Block) (k n : ℕ) →
      from_block bs p.block ≡ b ∷ rest → rest_of bs p ≡ [] → end_of b.source_end rest ≡ EndOfBlock k n → (program_of false bs resolve).fetch p ≡ EndOfBlock k n
  end_past bs resolve p b rest k n f none e =
      let none' : drop p.item b.items ≡ [] = sym (ap (λ (x : List Block). rest_in x p.item) f) ∙ none in
      ap (λ (x : List Block). fetch_in x p.item) f ∙ ap (λ (x : List Item). front x b.source_end rest) none' ∙ e

  -- a place at the end of the block
  pub past_items : (b : Block) → drop (length b.items) b.items ≡ []
  past_items b = drop-length b.items

  -- the items at the start of a block, where no store comes before
  pub start_in_g : (bs : List Block) (n : ℕ) → ((n ≡ first_of bs) → entry ≡ []) →
      rest_of (spilled_blocks s entry bs) (block_start n) ≡ spilled_items s (rest_of bs (block_start n))
  start_in_g bs n free = by_blocks (from_block bs n) refl where
    drop_zero : (xs : List Item) → drop 0 xs ≡ xs
    drop_zero [] = refl
    drop_zero (x ∷ xs) = refl

    no_first : (b : Block) (rest : List Block) → (g : InG bs n b rest) → g.first ≡ []
    no_first b rest g = elim g.which as (λ _. g.first ≡ []) [
      | inl e ↦ e
      | inr h ↦ h.0 ∙ ap (entry_stores b.id) (free h.1)
    ]

    by_blocks : (x : List Block) → from_block bs n ≡ x →
        rest_in (from_block (spilled_blocks s entry bs) n) 0 ≡ spilled_items s (rest_in (from_block bs n) 0)
    by_blocks [] f = ap (λ (x : List Block). rest_in x 0) (none_in_g bs n f) ∙ sym (ap (λ (x : List Block). spilled_items s (rest_in x 0)) f)
    by_blocks (b ∷ rest) f =
        let g = in_g bs n b rest f in
        ap (λ (x : List Block). rest_in x 0) g.at ∙ drop_zero (g.first ++ spilled_items s b.items) ∙
        ap (λ (x : List Item). x ++ spilled_items s b.items) (no_first b rest g) ∙
        ap (spilled_items s) (sym (drop_zero b.items)) ∙ sym (ap (λ (x : List Block). spilled_items s (rest_in x 0)) f)

-- the first block begins with the stores of registers that come in with a value
pub first_start : (s : Spilling) (entry : List SlotAssignment) (b : Block) (bs : List Block) →
    rest_of (spilled_blocks s entry (b ∷ bs)) (block_start b.id) ≡ entry_stores b.id entry ++ spilled_items s (rest_of (b ∷ bs) (block_start b.id))
first_start s entry b bs =
    let same : nat_eq b.id b.id ≡ true = eq-eqb b.id b.id refl in
    ap (λ (t : Bool). rest_in (cond t (first_block s entry b ∷ others s entry bs) (from_block (others s entry bs) b.id)) 0) same ∙
    drop_none (entry_stores b.id entry ++ spilled_items s b.items) ∙
    ap (λ (x : List Item). entry_stores b.id entry ++ spilled_items s x)
    (sym (ap (λ (t : Bool). rest_in (cond t (b ∷ bs) (from_block bs b.id)) 0) same ∙ drop_none b.items)) where
      drop_none : (xs : List Item) → drop 0 xs ≡ xs
      drop_none [] = refl
      drop_none (x ∷ xs) = refl

-- the end of a block, from where it stands
pub end_at : (bs : List Block) (resolve : OperandPair → Option OperandPair) (q : Pos) (k n : ℕ) → (program_of false bs resolve).fetch q ≡ EndOfBlock k n →
    (b : Block) × (rest : List Block) × (from_block bs q.block ≡ b ∷ rest) × (end_of b.source_end rest ≡ EndOfBlock k n)
end_at bs resolve q k n e = by_blocks (from_block bs q.block) refl e where
  by_blocks : (x : List Block) → from_block bs q.block ≡ x → fetch_in x q.item ≡ EndOfBlock k n →
      (b : Block) × (rest : List Block) × (from_block bs q.block ≡ b ∷ rest) × (end_of b.source_end rest ≡ EndOfBlock k n)
  by_blocks [] f e = cc
  by_blocks (b ∷ rest) f e = (b, rest, f, (front_end b.items q.item b.source_end rest k n e).1)
