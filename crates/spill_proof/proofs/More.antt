-- Spilling takes no code out, so more code has the origin of what it adds.
use Rattle.std.proofs.Common.{◌≡◌, ℕ, ◌+◌, ◌<◌, ◌≤◌, List, [], ◌∷◌, ◌++◌, count_by, map, Option, Bool, true, false, cond}
use Rattle.std.proofs.Common.{◌&&◌, refl, sym, ap, ◌∙◌, subst, arith}
use Rattle.std.proofs.lemmas.List.Concat.{flat_map-cons}
use Rattle.std.proofs.lemmas.List.Sums.{sum_by-append, sum_by-cons}
use Rattle.std.proofs.lemmas.Grind.{flat_map-append}
use Rattle.rv64_instr.specs.Instruction.{Instruction}
use Rattle.mir_func.specs.declared.block.Block.{Block}
use Rattle.mir_func.specs.declared.item.Item.{Item}
use Rattle.mir_func.specs.declared.item.ItemKind.{ItemKind}
use Rattle.mir_func.specs.declared.item.ItemKind.TheVariants.{Code, Mark, Phi}
use Rattle.mir_func.specs.declared.location.Loc.{Loc}
use Rattle.mir_func.specs.declared.position.Origin.{Origin}
use Rattle.mir_func.specs.declared.position.Origin.TheVariants.{Before}
use Rattle.mir_func.specs.declared.position.Pos.{Pos}
use Rattle.mir_func.specs.Graph.{below}
use Rattle.mir_func.specs.Sound.{items_of}
use Rattle.mir_func.specs.Positions.{position_of}
use Rattle.sem_mir.specs.Align.{is_code}
use Rattle.pass_trait.specs.Causes.{is_origin, IsMore}
use Rattle.pass_trait.specs.Change.{Change}
use Rattle.pass_trait.specs.Rule.{item}
use Rattle.pass_trait.proofs.NopDebug.{same_position}
use Rattle.spill_code.specs.declared.spilling.SlotAssignment.{SlotAssignment}
use Rattle.spill_code.specs.declared.spilling.Spilling.{Spilling}
use Rattle.spill_code.specs.Rewrite.{first_used, first_defined, spilled_code, added, two_loads, stores, code_items, spilled_item, spilled_items}
use Rattle.spill_code.specs.Rewrite.{spilled_block, entry_stores, spilled_blocks}
use Rattle.spill_debug.specs.RewrittenDebugItems.{kind_asked, next_number, number_behind, items_asked, blocks_asked}
use Rattle.spill_proof.proofs.Counts.{one_item}

-- how much code has an origin
module _ (o : Origin) where
  abbrev of_code : Item → Bool
  of_code i = is_code i.kind && is_origin i.origin o

  abbrev pub count : List Item → ℕ
  count xs = count_by of_code xs

  pub count_both : (xs ys : List Item) → count (xs ++ ys) ≡ count xs + count ys
  count_both xs ys = sum_by-append (λ (i : Item). cond (of_code i) 1 0) xs ys

  pub count_first : (x : Item) (xs : List Item) → count (x ∷ xs) ≡ cond (of_code x) 1 0 + count xs
  count_first x xs = sum_by-cons (λ (i : Item). cond (of_code i) 1 0) x xs

  -- what is counted of some is counted of more
  pub in_more : (x : Item) (xs : List Item) → 0 < count xs → 0 < count (x ∷ xs)
  in_more x xs lt = let e = count_first x xs in omega (arith, e, lt)

  no_code : (k : ItemKind) (q : Origin) (l : Loc) → is_code k ≡ false → count (item k q l ∷ []) ≡ 0
  no_code k q l e = count_first (item k q l) [] ∙ ap (λ (b : Bool). cond (b && is_origin q o) 1 0 + 0) e

-- where there is more code of an origin after some items than before, or any among some, there is more in the function
abbrev pub Grows : Change → (now was : List Item) → Type 0
Grows c now was = (o : Origin) → count o was < count o now → IsMore c is_code o

abbrev pub Adds : Change → List Item → Type 0
Adds c xs = (o : Origin) → 0 < count o xs → IsMore c is_code o

-- what is added has its origin
pub one_added : (p : Pos) (i : Instruction) (xs : List Item) → 0 < count (Before p) (added p i ∷ xs)
one_added p i xs =
    let e : count (Before p) (added p i ∷ xs) ≡ 1 + count (Before p) xs =
    count_first (Before p) (added p i) xs ∙ ap (λ (b : Bool). cond (true && b) 1 0 + count (Before p) xs) (same_position p) in
    omega (arith, e)

module _ (s : Spilling) (o : Origin) where
  abbrev loaded : Instruction → Origin → List Item
  loaded i q = two_loads s (position_of q) i.operands (first_used s.homes i.operands)

  abbrev stored : Instruction → Origin → List Item
  stored i q = stores (below (position_of q)) s.first (first_defined s.homes i.operands)

  code_is : (i : Instruction) (n : Option ℕ) (q : Origin) (l : Loc) →
      count o (code_items s i n q l) ≡ count o (loaded i q) + (count o (item (Code i n) q l ∷ []) + count o (stored i q))
  code_is i n q l =
      let now : Item = item (Code (spilled_code s i) n) q l in
      let all : count o (code_items s i n q l) ≡ count o (loaded i q) + count o (now ∷ stored i q) = count_both o (loaded i q) (now ∷ stored i q) in
      let here : count o (now ∷ stored i q) ≡ cond (is_origin q o) 1 0 + count o (stored i q) = count_first o now (stored i q) in
      let was : count o (item (Code i n) q l ∷ []) ≡ cond (is_origin q o) 1 0 + 0 = count_first o (item (Code i n) q l) [] in
      omega (arith, all, here, was)

  pub more_loaded : (i : Instruction) (n : Option ℕ) (q : Origin) (l : Loc) → 0 < count o (loaded i q) →
      count o (item (Code i n) q l ∷ []) < count o (code_items s i n q l)
  more_loaded i n q l lt = let e = code_is i n q l in omega (arith, e, lt)

  pub more_behind_code : (i : Instruction) (n : Option ℕ) (q : Origin) (l : Loc) → 0 < count o (stored i q) →
      count o (item (Code i n) q l ∷ []) < count o (code_items s i n q l)
  more_behind_code i n q l lt = let e = code_is i n q l in omega (arith, e, lt)

  kept_code : (i : Instruction) (n : Option ℕ) (q : Origin) (l : Loc) → count o (item (Code i n) q l ∷ []) ≤ count o (code_items s i n q l)
  kept_code i n q l = let e = code_is i n q l in omega (arith, e)

  kept_kind : (k : ℕ) (x : ItemKind) (q : Origin) (l : Loc) → count o (item x q l ∷ []) ≤ count o (spilled_items s (kind_asked s k x q l))
  kept_kind k (Code i n) q l =
      subst (λ (xs : List Item). count o (item (Code i n) q l ∷ []) ≤ count o xs) (sym (one_item s (item (Code i n) q l))) (kept_code i n q l)
  kept_kind k (Phi p n) q l = let none = no_code o (Phi p n) q l refl in omega (arith, none)
  kept_kind k (Mark v m) q l = let none = no_code o (Mark v m) q l refl in omega (arith, none)

  -- an item and those behind it
  abbrev now_of : ℕ → Item → List Item
  now_of k x = spilled_items s (kind_asked s k x.kind x.origin x.loc)

  abbrev now_behind : ℕ → Item → List Item → List Item
  now_behind k x xs = spilled_items s (items_asked s (next_number s.homes k x.kind) xs)

  items_are : (k : ℕ) (x : Item) (xs : List Item) → count o (spilled_items s (items_asked s k (x ∷ xs))) ≡ count o (now_of k x) + count o (now_behind k x xs)
  items_are k x xs =
      ap (count o) (flat_map-append (spilled_item s) (kind_asked s k x.kind x.origin x.loc) (items_asked s (next_number s.homes k x.kind) xs)) ∙
      count_both o (now_of k x) (now_behind k x xs)

  kept_items : (k : ℕ) (xs : List Item) → count o xs ≤ count o (spilled_items s (items_asked s k xs))
  kept_items k [] = omega arith
  kept_items k (x ∷ xs) =
      let was : count o (x ∷ xs) ≡ count o (x ∷ []) + count o xs = count_both o (x ∷ []) xs in
      let now = items_are k x xs in
      let one = kept_kind k x.kind x.origin x.loc in
      let more = kept_items (next_number s.homes k x.kind) xs in
      omega (arith, was, now, one, more)

  pub more_first : (k : ℕ) (x : Item) (xs : List Item) → count o (x ∷ []) < count o (now_of k x) →
      count o (x ∷ xs) < count o (spilled_items s (items_asked s k (x ∷ xs)))
  more_first k x xs lt =
      let was : count o (x ∷ xs) ≡ count o (x ∷ []) + count o xs = count_both o (x ∷ []) xs in
      let now = items_are k x xs in
      let more = kept_items (next_number s.homes k x.kind) xs in
      omega (arith, was, now, lt, more)

  pub more_behind : (k : ℕ) (x : Item) (xs : List Item) → count o xs < count o (now_behind k x xs) →
      count o (x ∷ xs) < count o (spilled_items s (items_asked s k (x ∷ xs)))
  more_behind k x xs lt =
      let was : count o (x ∷ xs) ≡ count o (x ∷ []) + count o xs = count_both o (x ∷ []) xs in
      let now = items_are k x xs in
      let one = kept_kind k x.kind x.origin x.loc in
      omega (arith, was, now, one, lt)

  -- a block and those behind it
  abbrev now_in : ℕ → Block → List Item
  now_in k b = spilled_items s (items_asked s k b.items)

  abbrev blocks_now : ℕ → List Block → List Block
  blocks_now k bs = map (spilled_block s) (blocks_asked s k bs)

  blocks_were : (b : Block) (bs : List Block) → count o (items_of (b ∷ bs)) ≡ count o b.items + count o (items_of bs)
  blocks_were b bs = ap (count o) (flat_map-cons (λ (d : Block). d.items) b bs) ∙ count_both o b.items (items_of bs)

  blocks_are : (k : ℕ) (b : Block) (bs : List Block) →
      count o (items_of (blocks_now k (b ∷ bs))) ≡ count o (now_in k b) + count o (items_of (blocks_now (number_behind s.homes k b.items) bs))
  blocks_are k b bs =
      blocks_were (record { id = b.id; items = now_in k b; source_end = b.source_end }) (blocks_now (number_behind s.homes k b.items) bs)

  kept_blocks : (k : ℕ) (bs : List Block) → count o (items_of bs) ≤ count o (items_of (blocks_now k bs))
  kept_blocks k [] = omega arith
  kept_blocks k (b ∷ bs) =
      let was = blocks_were b bs in
      let now = blocks_are k b bs in
      let one = kept_items k b.items in
      let more = kept_blocks (number_behind s.homes k b.items) bs in
      omega (arith, was, now, one, more)

  pub more_in : (k : ℕ) (b : Block) (bs : List Block) → count o b.items < count o (now_in k b) →
      count o (items_of (b ∷ bs)) < count o (items_of (blocks_now k (b ∷ bs)))
  more_in k b bs lt =
      let was = blocks_were b bs in
      let now = blocks_are k b bs in
      let more = kept_blocks (number_behind s.homes k b.items) bs in
      omega (arith, was, now, lt, more)

  pub more_later : (k : ℕ) (b : Block) (bs : List Block) →
      count o (items_of bs) < count o (items_of (blocks_now (number_behind s.homes k b.items) bs)) →
      count o (items_of (b ∷ bs)) < count o (items_of (blocks_now k (b ∷ bs)))
  more_later k b bs lt =
      let was = blocks_were b bs in
      let now = blocks_are k b bs in
      let one = kept_items k b.items in
      omega (arith, was, now, one, lt)

  -- the first block, with its stores
  module _ (entry : List SlotAssignment) (k : ℕ) (b : Block) (bs : List Block) where
    first_now : count o (items_of (spilled_blocks s entry (blocks_asked s k (b ∷ bs)))) ≡
        (count o (entry_stores b.id entry) + count o (now_in k b)) + count o (items_of (blocks_now (number_behind s.homes k b.items) bs))
    first_now =
        let all : count o (items_of (spilled_blocks s entry (blocks_asked s k (b ∷ bs)))) ≡
        count o (entry_stores b.id entry ++ now_in k b) + count o (items_of (blocks_now (number_behind s.homes k b.items) bs)) =
        blocks_were (record { id = b.id; items = entry_stores b.id entry ++ now_in k b; source_end = b.source_end })
        (blocks_now (number_behind s.homes k b.items) bs) in
        let two = count_both o (entry_stores b.id entry) (now_in k b) in
        omega (arith, all, two)

    pub more_stored : 0 < count o (entry_stores b.id entry) →
        count o (items_of (b ∷ bs)) < count o (items_of (spilled_blocks s entry (blocks_asked s k (b ∷ bs))))
    more_stored lt =
        let was = blocks_were b bs in
        let now = first_now in
        let one = kept_items k b.items in
        let more = kept_blocks (number_behind s.homes k b.items) bs in
        omega (arith, was, now, one, more, lt)

    pub more_in_first : count o b.items < count o (now_in k b) →
        count o (items_of (b ∷ bs)) < count o (items_of (spilled_blocks s entry (blocks_asked s k (b ∷ bs))))
    more_in_first lt =
        let was = blocks_were b bs in
        let now = first_now in
        let more = kept_blocks (number_behind s.homes k b.items) bs in
        omega (arith, was, now, more, lt)

    pub more_after_first : count o (items_of bs) < count o (items_of (blocks_now (number_behind s.homes k b.items) bs)) →
        count o (items_of (b ∷ bs)) < count o (items_of (spilled_blocks s entry (blocks_asked s k (b ∷ bs))))
    more_after_first lt =
        let was = blocks_were b bs in
        let now = first_now in
        let one = kept_items k b.items in
        omega (arith, was, now, one, lt)
