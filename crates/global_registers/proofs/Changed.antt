-- Lists of items and of blocks whose calls and ends read the global registers now, or no longer do.
use Rattle.std.proofs.Common.{◌≡◌, ℕ, zero, suc, Bool, List, [], ◌∷◌, ◌++◌, map, slice_get, Some, refl, ap, ◌∙◌, subst}
use Rattle.mir_func.specs.declared.block.Block.{Block}
use Rattle.mir_func.specs.declared.item.Item.{Item}
use Rattle.mir_func.specs.declared.item.ItemKind.{ItemKind}
use Rattle.mir_func.specs.Sound.{items_of}
use Rattle.global_registers.specs.Shared.{kind_by, item_by, block_by}

abbrev pub MayBeShared : Item → Item → Type 0
MayBeShared x y = (shares : Bool) × (y ≡ item_by shares x)

pub data AreItemsShared : List Item → List Item → Type 0 where
  none : AreItemsShared [] []
  next : {x y : Item} {xs ys : List Item} → MayBeShared x y → AreItemsShared xs ys → AreItemsShared (x ∷ xs) (y ∷ ys)

pub data AreBlocksShared : List Block → List Block → Type 0 where
  no_blocks : AreBlocksShared [] []
  next_block : {a b : Block} {fs gs : List Block} → b.id ≡ a.id → b.source_end ≡ a.source_end → AreItemsShared a.items b.items → AreBlocksShared fs gs →
      AreBlocksShared (a ∷ fs) (b ∷ gs)

-- what is one for a kind and for the kind that it becomes
pub kept_by : {A : Type 0} (h : ItemKind → A) → ((shares : Bool) (k : ItemKind) → h (kind_by shares k) ≡ h k) → (x y : Item) → MayBeShared x y →
    h y.kind ≡ h x.kind
kept_by h stays x y w = ap (λ (i : Item). h i.kind) w.1 ∙ stays w.0 x.kind

pub origin_kept : (x y : Item) → MayBeShared x y → y.origin ≡ x.origin
origin_kept x y w = ap (λ (i : Item). i.origin) w.1

items_shared : (shares : Bool) (xs : List Item) → AreItemsShared xs (map (item_by shares) xs)
items_shared shares [] = none
items_shared shares (x ∷ xs) = next (shares, refl) (items_shared shares xs)

append_shared : (xs ys zs ws : List Item) → AreItemsShared xs ys → AreItemsShared zs ws → AreItemsShared (xs ++ zs) (ys ++ ws)
append_shared xs ys zs ws none h = h
append_shared (x ∷ xs) (y ∷ ys) zs ws (next m rest) h = next m (append_shared xs ys zs ws rest h)

-- what stands somewhere stood there
pub item_back : (xs ys : List Item) → AreItemsShared xs ys → (n : ℕ) (y : Item) → slice_get ys n ≡ Some y →
    (x : Item) × (slice_get xs n ≡ Some x) × MayBeShared x y
item_back xs ys none n y e = cc
item_back (x ∷ xs) (z ∷ ys) (next m rest) zero y e = let w : z ≡ y = cc in (x, refl, subst (MayBeShared x) w m)
item_back (x ∷ xs) (z ∷ ys) (next m rest) (suc n) y e = item_back xs ys rest n y e

pub all_items_shared : (fs gs : List Block) → AreBlocksShared fs gs → AreItemsShared (items_of fs) (items_of gs)
all_items_shared fs gs no_blocks = none
all_items_shared (a ∷ fs) (b ∷ gs) (next_block id source_end items rest) =
    append_shared a.items b.items (items_of fs) (items_of gs) items (all_items_shared fs gs rest)

pub blocks_shared : (shares : Bool) (bs : List Block) → AreBlocksShared bs (map (block_by shares) bs)
blocks_shared shares [] = no_blocks
blocks_shared shares (b ∷ bs) = next_block refl refl (items_shared shares b.items) (blocks_shared shares bs)
