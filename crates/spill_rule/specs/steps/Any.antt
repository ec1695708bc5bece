-- A test for some item of some block, block by block.
use Rattle.std.specs.Prelude.{List, Bool}
use Rattle.std.specs.List.{list_any}
use Rattle.mir_func.specs.declared.block.Block.{Block}
use Rattle.mir_func.specs.declared.item.Item.{Item}

abbrev pub any_item : (Item → Bool) → List Block → Bool
any_item test blocks = list_any (λ b. list_any test b.items) blocks
