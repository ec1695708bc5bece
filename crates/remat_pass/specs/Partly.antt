-- Blocks in which some constants are rematerialized: the state if the pass stops with an error.
use Rattle.std.specs.Prelude.{◌≡◌, ◌⊎◌, List, [], ◌∷◌}
use Rattle.mir_func.specs.declared.item.Item.{Item}
use Rattle.mir_func.specs.declared.block.Block.{Block}
use Rattle.remat_pass.specs.Known.{Known}
use Rattle.remat_pass.specs.Remat.{set_in}

-- the item unchanged, or with a constant rematerialized, for some known values
abbrev pub MayBeSet : Item → Item → Type 0
MayBeSet x y = (y ≡ x) ⊎ ((known : Known) × (y ≡ record x { kind = set_in known x.kind }))

-- items in order, each unchanged or with a constant rematerialized
pub data AreItemsSet : List Item → List Item → Type 0 where
  none : AreItemsSet [] []
  next : {x y : Item} {xs ys : List Item} → MayBeSet x y → AreItemsSet xs ys → AreItemsSet (x ∷ xs) (y ∷ ys)

-- blocks in order, with such items; their numbers and silent indices are unchanged
pub data AreBlocksSet : List Block → List Block → Type 0 where
  no_blocks : AreBlocksSet [] []
  next_block : {a b : Block} {fs gs : List Block} → b.id ≡ a.id → b.source_end ≡ a.source_end → AreItemsSet a.items b.items → AreBlocksSet fs gs →
      AreBlocksSet (a ∷ fs) (b ∷ gs)
