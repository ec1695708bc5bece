-- Proofs that the pass needs for its own trait items. They are here and not in proofs/ since an implementation of the
-- trait of passes names them. Nothing here must be believed.
use Rattle.std.proofs.Common.{◌≡◌, Bool, List, [], ◌∷◌, map, refl, ap}
use Rattle.mir_func.specs.declared.item.Item.{Item}
use Rattle.mir_func.specs.declared.block.Block.{Block}
use Rattle.mir_func.specs.Function.{Function}
use Rattle.pass_trait.specs.Code.{HasOneResult, SeesCodeAlone, originless_item, originless_block, originless}
use Rattle.pass_trait.specs.Laws.{one_of, same_of}
use Rattle.global_registers.specs.Shared.{item_by, block_by, function_by, IsSharedBy}

-- the rule is functional
pub one_shared : (shares : Bool) → HasOneResult (IsSharedBy shares)
one_shared shares = one_of (function_by shares)

items_originless : (shares : Bool) (xs : List Item) → map originless_item (map (item_by shares) xs) ≡ map (item_by shares) (map originless_item xs)
items_originless shares [] = refl
items_originless shares (x ∷ xs) = ap (λ (ys : List Item). originless_item (item_by shares x) ∷ ys) (items_originless shares xs)

blocks_originless : (shares : Bool) (bs : List Block) → map originless_block (map (block_by shares) bs) ≡ map (block_by shares) (map originless_block bs)
blocks_originless shares [] = refl
blocks_originless shares (b ∷ bs) =
    let e = items_originless shares b.items in
    let es = blocks_originless shares bs in
    λ i. record { id = b.id; items = e i; source_end = 0 } ∷ es i

shared_originless : (shares : Bool) (f : Function) → originless (function_by shares f) ≡ function_by shares (originless f)
shared_originless shares f = let e = blocks_originless shares f.blocks in λ i. record f { blocks = e i }

-- the rule doesn't depend on positions
pub same_shared : (shares : Bool) → SeesCodeAlone (IsSharedBy shares)
same_shared shares = same_of (function_by shares) (shared_originless shares)
