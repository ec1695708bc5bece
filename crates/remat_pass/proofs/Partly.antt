-- Lists of items and of blocks in some of which constants were set.
use Rattle.std.proofs.Common.{◌≡◌, ◌⊎◌, ℕ, zero, suc, ◌+◌, ◌<◌, ◌≤◌, List, [], ◌∷◌, ◌++◌, length, map, take, drop, set, get_or, slice_get}
use Rattle.std.proofs.Common.{Some, append-nil, refl, sym, ap, ◌∙◌, subst, inl, inr, arith}
use Rattle.std.proofs.lemmas.Bool.{cases_order}
use Rattle.std.proofs.lemmas.List.{take_all, drop_all}
use Rattle.mir_func.specs.declared.block.Block.{Block}
use Rattle.mir_func.specs.declared.item.Item.{Item}
use Rattle.mir_func.specs.declared.item.ItemKind.{ItemKind}
use Rattle.mir_func.specs.Sound.{items_of}
use Rattle.remat_pass.specs.Known.{Known, nothing_known, known_past}
use Rattle.remat_pass.specs.Remat.{set_in, set_items, set_block, set_blocks}
use Rattle.remat_pass.specs.Partly.{MayBeSet, AreItemsSet, none, next, AreBlocksSet, no_blocks, next_block}

-- what is one for a kind and for the kind with a constant set
pub kept_by : {A : Type 0} (h : ItemKind → A) → ((known : Known) (k : ItemKind) → h (set_in known k) ≡ h k) → (x y : Item) → MayBeSet x y → h y.kind ≡ h x.kind
kept_by h stays x y m = elim m [
  | inl e ↦ ap (λ (i : Item). h i.kind) e
  | inr w ↦ ap (λ (i : Item). h i.kind) w.1 ∙ stays w.0 x.kind
]

-- what holds of a kind, and so of the kind with a constant set
pub held_by : (P : ItemKind → Type 0) → ((known : Known) (k : ItemKind) → P k → P (set_in known k)) → (x y : Item) → MayBeSet x y → P x.kind → P y.kind
held_by P stays x y m h = elim m [
  | inl e ↦ subst (λ (i : Item). P i.kind) (sym e) h
  | inr w ↦ subst (λ (i : Item). P i.kind) (sym w.1) (stays w.0 x.kind h)
]

pub origin_kept : (x y : Item) → MayBeSet x y → y.origin ≡ x.origin
origin_kept x y m = elim m [
  | inl e ↦ ap (λ (i : Item). i.origin) e
  | inr w ↦ ap (λ (i : Item). i.origin) w.1
]

-- ---- items

pub items_set : (known : Known) (xs : List Item) → AreItemsSet xs (set_items known xs)
items_set known [] = none
items_set known (x ∷ xs) = next (inr (known, refl)) (items_set (known_past (set_in known x.kind) known) xs)

pub items_kept : (xs : List Item) → AreItemsSet xs xs
items_kept [] = none
items_kept (x ∷ xs) = next (inl refl) (items_kept xs)

-- one more is set, or stays
pub item_turn : (xs ys : List Item) → AreItemsSet xs ys → (n : ℕ) → n < length xs → (x made : Item) → x ≡ get_or xs n x → MayBeSet x made →
    AreItemsSet xs (set ys n made)
item_turn xs ys none n lt x made is m = absurd (omega (arith, lt))
item_turn (z ∷ xs) (y ∷ ys) (next k rest) zero lt x made is m = next (subst (λ (i : Item). MayBeSet i made) is m) rest
item_turn (z ∷ xs) (y ∷ ys) (next k rest) (suc n) lt x made is m = next k (item_turn xs ys rest n (omega (arith, lt)) x made is m)

append_set : (xs ys zs ws : List Item) → AreItemsSet xs ys → AreItemsSet zs ws → AreItemsSet (xs ++ zs) (ys ++ ws)
append_set xs ys zs ws none h = h
append_set (x ∷ xs) (y ∷ ys) zs ws (next m rest) h = next m (append_set xs ys zs ws rest h)

-- what stands somewhere stood there
pub item_back : (xs ys : List Item) → AreItemsSet xs ys → (n : ℕ) (y : Item) → slice_get ys n ≡ Some y → (x : Item) × (slice_get xs n ≡ Some x) × MayBeSet x y
item_back xs ys none n y e = cc
item_back (x ∷ xs) (z ∷ ys) (next m rest) zero y e = let w : z ≡ y = cc in (x, refl, subst (MayBeSet x) w m)
item_back (x ∷ xs) (z ∷ ys) (next m rest) (suc n) y e = item_back xs ys rest n y e

-- ---- blocks

pub all_items_set : (fs gs : List Block) → AreBlocksSet fs gs → AreItemsSet (items_of fs) (items_of gs)
all_items_set fs gs no_blocks = none
all_items_set (a ∷ fs) (b ∷ gs) (next_block id source_end items rest) = append_set a.items b.items (items_of fs) (items_of gs) items (all_items_set fs gs rest)

pub blocks_set : (bs : List Block) → AreBlocksSet bs (set_blocks bs)
blocks_set [] = no_blocks
blocks_set (b ∷ bs) = next_block refl refl (items_set nothing_known b.items) (blocks_set bs)

blocks_kept : (bs : List Block) → AreBlocksSet bs bs
blocks_kept [] = no_blocks
blocks_kept (b ∷ bs) = next_block refl refl (items_kept b.items) (blocks_kept bs)

-- where so many blocks are done
pub blocks_done : (bs : List Block) (n : ℕ) → AreBlocksSet bs (map set_block (take n bs) ++ drop n bs)
blocks_done [] zero = no_blocks
blocks_done [] (suc n) = no_blocks
blocks_done (b ∷ bs) zero = blocks_kept (b ∷ bs)
blocks_done (b ∷ bs) (suc n) = next_block refl refl (items_set nothing_known b.items) (blocks_done bs n)

-- and the next one is done in part
pub block_in_part : (bs : List Block) (n : ℕ) → n < length bs → (b made : Block) → b ≡ get_or (map set_block (take n bs) ++ drop n bs) n b →
    made.id ≡ b.id → made.source_end ≡ b.source_end → AreItemsSet b.items made.items → AreBlocksSet bs (set (map set_block (take n bs) ++ drop n bs) n made)
block_in_part [] n lt b made is id source_end items = absurd (omega (arith, lt))
block_in_part (a ∷ bs) zero lt b made is id source_end items =
    next_block (id ∙ ap (λ (c : Block). c.id) is) (source_end ∙ ap (λ (c : Block). c.source_end) is)
    (subst (λ (c : Block). AreItemsSet c.items made.items) is items) (blocks_kept bs)
block_in_part (a ∷ bs) (suc n) lt b made is id source_end items =
    next_block refl refl (items_set nothing_known a.items) (block_in_part bs n (omega (arith, lt)) b made is id source_end items)

-- ---- what a loop over mutable items leaves

items_long : (xs ys : List Item) → AreItemsSet xs ys → length ys ≡ length xs
items_long xs ys none = refl
items_long (x ∷ xs) (y ∷ ys) (next m rest) = ap suc (items_long xs ys rest)

blocks_long : (fs gs : List Block) → AreBlocksSet fs gs → length gs ≡ length fs
blocks_long fs gs no_blocks = refl
blocks_long (a ∷ fs) (b ∷ gs) (next_block id source_end items rest) = ap suc (blocks_long fs gs rest)

-- a list as long as the one that it was written over
written_over : {A : Type 0} (xs ys : List A) (n : ℕ) → length ys ≡ length xs → length xs ≤ n → take n (ys ++ drop (length ys) xs) ≡ ys
written_over xs ys n e le =
    ap (λ (zs : List _). take n (ys ++ zs)) (drop_all (length ys) xs (omega (arith, e))) ∙
    (ap (take n) (append-nil ys) ∙ take_all n ys (omega (arith, e, le)))

pub items_back : (xs ys : List Item) (n : ℕ) → length xs ≤ n → AreItemsSet xs ys → AreItemsSet xs (take n (ys ++ drop (length ys) xs))
items_back xs ys n le r = subst (AreItemsSet xs) (sym (written_over xs ys n (items_long xs ys r) le)) r

pub blocks_back : (fs gs : List Block) (n : ℕ) → length fs ≤ n → AreBlocksSet fs gs → AreBlocksSet fs (take n (gs ++ drop (length gs) fs))
blocks_back fs gs n le r = subst (AreBlocksSet fs) (sym (written_over fs gs n (blocks_long fs gs r) le)) r

-- ---- what holds of each of the first so many

any_default : {A : Type 0} (xs : List A) (k : ℕ) (d e : A) → k < length xs → get_or xs k d ≡ get_or xs k e
any_default [] k d e lt = absurd (omega (arith, lt))
any_default (x ∷ xs) zero d e lt = refl
any_default (x ∷ xs) (suc k) d e lt = any_default xs k d e (omega (arith, lt))

-- holds of one more
pub each_more : {A : Type 0} (P : A → Type 0) (xs : List A) (n : ℕ) (x : A) → n < length xs → x ≡ get_or xs n x → P x →
    ((k : ℕ) (d : A) → k < n → P (get_or xs k d)) → (k : ℕ) (d : A) → k < n + 1 → P (get_or xs k d)
each_more {A} P xs n x inside is h before k d lt = by_index (cases_order k n) where
  by_index : (k ≡ n) ⊎ ((k < n) ⊎ (n < k)) → P (get_or xs k d)
  by_index (inl e) =
      subst P (is ∙ (ap (λ (m : ℕ). get_or xs m x) (sym e) ∙ any_default xs k x d (omega (arith, e, inside)))) h
  by_index (inr (inl less)) = before k d less
  by_index (inr (inr more)) = absurd (omega (arith, lt, more))
