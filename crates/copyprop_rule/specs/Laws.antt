-- Proofs that the pass needs for its own trait items. They are here and not in proofs/ since an implementation of the trait of
-- passes names them. Nothing here must be believed.
use Rattle.std.proofs.Common.{◌≡◌, List, [], ◌∷◌, map, Bool, true, false, cond, refl, ap}
use Rattle.mir_func.specs.declared.item.Item.{Item}
use Rattle.mir_func.specs.declared.block.Block.{Block}
use Rattle.mir_func.specs.Function.{Function}
use Rattle.pass_trait.specs.Code.{HasOneResult, SeesCodeAlone, originless_item, originless_block, originless}
use Rattle.pass_trait.specs.Laws.{one_of, same_of}
use Rattle.copyprop_block.specs.declared.roots.Root.{Root}
use Rattle.copyprop_block.specs.Copied.{renamed_kind, renamed_item, roots_with}
use Rattle.copyprop_rule.specs.Rule.{goes, copied_items, copied_block, copied, IsCopied}

-- the rule is functional
pub one_copied : HasOneResult IsCopied
one_copied = one_of copied

items_originless : (xs : List Item) (e : List Root) → map originless_item (copied_items e xs) ≡ copied_items e (map originless_item xs)
items_originless [] e = refl
items_originless (x ∷ xs) e =
    by_test (goes e (renamed_kind e x.kind)) (items_originless xs e) (items_originless xs (roots_with (renamed_kind e x.kind) e)) where
      by_test : (z : Bool) → map originless_item (copied_items e xs) ≡ copied_items e (map originless_item xs) →
          map originless_item (copied_items (roots_with (renamed_kind e x.kind) e) xs) ≡
          copied_items (roots_with (renamed_kind e x.kind) e) (map originless_item xs) →
          map originless_item (cond z (copied_items e xs) (renamed_item e x ∷ copied_items (roots_with (renamed_kind e x.kind) e) xs)) ≡
          cond z (copied_items e (map originless_item xs))
          (renamed_item e (originless_item x) ∷ copied_items (roots_with (renamed_kind e x.kind) e) (map originless_item xs))
      by_test true h k = h
      by_test false h k = ap (λ (ys : List Item). originless_item (renamed_item e x) ∷ ys) k

blocks_originless : (bs : List Block) → map originless_block (map copied_block bs) ≡ map copied_block (map originless_block bs)
blocks_originless [] = refl
blocks_originless (b ∷ bs) =
    let e = items_originless b.items [] in
    let es = blocks_originless bs in
    λ i. record { id = b.id; items = e i; source_end = 0 } ∷ es i

copied_originless : (f : Function) → originless (copied f) ≡ copied (originless f)
copied_originless f = let e = blocks_originless f.blocks in λ i. record f { blocks = e i }

-- the rule doesn't depend on positions
pub same_copied : SeesCodeAlone IsCopied
same_copied = same_of copied copied_originless
