-- How far above x2 addresses of objects lie, item by item and block by block.
use Rattle.std.proofs.Common.{◌≡◌, ℕ, ◌+◌, ◌^◌, ◌<◌, ◌≤◌, max, List, [], ◌∷◌, length, get_or, drop, All, sym, ap, ◌∙◌, arith}
use Rattle.std.proofs.lemmas.List.{drop_more, drop_all}
use Rattle.mir_func.specs.declared.block.Block.{Block}
use Rattle.mir_func.specs.declared.item.Item.{Item}
use Rattle.mir_func.specs.declared.object.Object.{Object}
use Rattle.mir_func.specs.Function.{Function}
use Rattle.mir_func.specs.Objects.{AreLaid, extent_of}
use Rattle.mir_func.specs.Sound.{IsSoundObject}
use Rattle.mir_func.proofs.Ends.{each_ends_low}
use Rattle.frame_rule.specs.Rule.{kind_end, items_end, blocks_end, own_size_of, reach_of}

module _ (own : ℕ) (os : List Object) where
  pub items_turn : (n i : ℕ) (x : Item) (items : List Item) → i < length items → x ≡ get_or items i x →
      items_end own os n (drop i items) ≡ items_end own os (max n (kind_end own os x.kind)) (drop (i + 1) items)
  unfolding items_end
  items_turn n i x items lt is = ap (items_end own os n) (drop_more items i x lt ∙ ap (λ (y : Item). y ∷ drop (i + 1) items) (sym is))

  pub items_done : (n i : ℕ) (items : List Item) → length items ≤ i → items_end own os n (drop i items) ≡ n
  unfolding items_end
  items_done n i items all = ap (items_end own os n) (drop_all i items all)

  pub blocks_turn : (n i : ℕ) (b : Block) (blocks : List Block) → i < length blocks → b ≡ get_or blocks i b →
      blocks_end own os n (drop i blocks) ≡ blocks_end own os (items_end own os n b.items) (drop (i + 1) blocks)
  unfolding blocks_end
  blocks_turn n i b blocks lt is = ap (blocks_end own os n) (drop_more blocks i b lt ∙ ap (λ (y : Block). y ∷ drop (i + 1) blocks) (sym is))

  pub blocks_done : (n i : ℕ) (blocks : List Block) → length blocks ≤ i → blocks_end own os n (drop i blocks) ≡ n
  unfolding blocks_end
  blocks_done n i blocks all = ap (blocks_end own os n) (drop_all i blocks all)

-- objects that are laid begin low
pub begin_low : (os : List Object) → length os ≤ 224 → All IsSoundObject os → AreLaid os → All (λ (o : Object). o.offset ≤ 2 ^ 40) os
begin_low os few each laid = λ k d lt. omega (arith, each_ends_low os few each laid k d lt)

-- how far the frame of a function reaches, by its parts
pub reach_found : (f : Function) (own end reach : ℕ) (objects : List Object) (blocks : List Block) → own ≡ own_size_of f → objects ≡ f.objects → blocks ≡ f.blocks →
    end ≡ own_size_of f + extent_of f.objects → reach ≡ blocks_end own objects end blocks → reach ≡ reach_of f
reach_found f own end reach objects blocks own_is objects_are blocks_are end_is is =
    is ∙ ap (λ (n : ℕ). blocks_end n objects end blocks) own_is
    ∙ ap (λ (os : List Object). blocks_end (own_size_of f) os end blocks) objects_are
    ∙ ap (λ (n : ℕ). blocks_end (own_size_of f) f.objects n blocks) end_is
    ∙ ap (λ (bs : List Block). blocks_end (own_size_of f) f.objects (own_size_of f + extent_of f.objects) bs) blocks_are
