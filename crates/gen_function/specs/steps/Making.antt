-- Effects of the functions that append items.
use Rattle.std.specs.Prelude.{◌≡◌, ℕ, List, ◌++◌}
use Rattle.mir_func.specs.declared.block.Block.{Block}
use Rattle.mir_func.specs.declared.item.ItemKind.{ItemKind}
use Rattle.gen_function.specs.Draws.{Drawn}
use Rattle.gen_function.specs.Generator.{GeneratedItems, block_items, block_of}

-- These items are appended, and this is the state of the sequence after them.
abbrev pub Appends : GeneratedItems → (old new : List ItemKind) → Drawn → Type 0
Appends made old new rest = (new ≡ old ++ made.kinds) × (rest ≡ made.rest)

-- This is the block with this index, and this is the state of the sequence after it.
abbrev pub MakesBlock : (blocks block : ℕ) → (old new : Drawn) → Block → Type 0
MakesBlock count b old new made = let items = block_items count b old in (made ≡ block_of b items.kinds) × (new ≡ items.rest)
