-- The debug instruction numbers of items, blocks and substitutions.
use Rattle.std.specs.Prelude.{ℕ, List, [], ◌∷◌}
use Rattle.std.specs.List.{flat_map}
use Rattle.mir_func.specs.declared.block.Block.{Block}
use Rattle.mir_func.specs.declared.debug_substitution.DebugSubstitution.{DebugSubstitution}
use Rattle.mir_func.specs.declared.item.Item.{Item}
use Rattle.mir_func.specs.Sound.{items_of}
use Rattle.pass_trait.specs.Sizes.{numbers_of}

-- the numbers that items define or refer to, in order
abbrev pub item_numbers : List Item → List ℕ
item_numbers items = flat_map (λ i. numbers_of i.kind) items

-- those of all items of the blocks
abbrev pub block_numbers : List Block → List ℕ
block_numbers blocks = item_numbers (items_of blocks)

-- those on both sides of the substitutions
abbrev pub entry_numbers : List DebugSubstitution → List ℕ
entry_numbers entries = flat_map (λ e. e.src.number ∷ e.dst.number ∷ []) entries
