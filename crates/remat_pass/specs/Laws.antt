-- Proofs that the pass needs for its own trait items. They are here and not in proofs/ since an implementation of the
-- trait of passes names them. Nothing here must be believed.
use Rattle.std.proofs.Common.{◌≡◌, List, [], ◌∷◌, map, refl, ap}
use Rattle.mir_func.specs.declared.item.Item.{Item}
use Rattle.mir_func.specs.declared.block.Block.{Block}
use Rattle.mir_func.specs.Function.{Function}
use Rattle.pass_trait.specs.Code.{HasOneResult, SeesCodeAlone, originless_item, originless_block, originless}
use Rattle.pass_trait.specs.Laws.{one_of, same_of}
use Rattle.remat_pass.specs.Known.{Known, nothing_known, known_past}
use Rattle.remat_pass.specs.Remat.{set_in, set_items, set_blocks, rematerialized, IsRematerialized}

-- the rule is functional
pub one_rematerialized : HasOneResult IsRematerialized
one_rematerialized = one_of rematerialized

items_originless : (known : Known) (xs : List Item) → map originless_item (set_items known xs) ≡ set_items known (map originless_item xs)
items_originless known [] = refl
items_originless known (x ∷ xs) =
    ap (λ (ys : List Item). originless_item (record x { kind = set_in known x.kind }) ∷ ys) (items_originless (known_past (set_in known x.kind) known) xs)

blocks_originless : (bs : List Block) → map originless_block (set_blocks bs) ≡ set_blocks (map originless_block bs)
blocks_originless [] = refl
blocks_originless (b ∷ bs) =
    let e = items_originless nothing_known b.items in
    let es = blocks_originless bs in
    λ i. record { id = b.id; items = e i; source_end = 0 } ∷ es i

rematerialized_originless : (f : Function) → originless (rematerialized f) ≡ rematerialized (originless f)
rematerialized_originless f = let e = blocks_originless f.blocks in λ i. record f { blocks = e i }

-- the rule doesn't depend on positions
pub same_rematerialized : SeesCodeAlone IsRematerialized
same_rematerialized = same_of rematerialized rematerialized_originless
