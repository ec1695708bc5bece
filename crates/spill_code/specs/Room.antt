-- The condition that the store added after an item has a valid position.
use Rattle.std.specs.Prelude.{◌≡◌, ℕ, ◌<◌, ◌+◌, ◌^◌, List, All, Some}
use Rattle.mir_func.specs.declared.position.Origin.{Origin}
use Rattle.mir_func.specs.declared.item.Item.{Item}
use Rattle.mir_func.specs.declared.item.ItemKind.{ItemKind}
use Rattle.mir_func.specs.declared.item.ItemKind.TheVariants.{Code, Mark, Phi}
use Rattle.mir_func.specs.declared.block.Block.{Block}
use Rattle.mir_func.specs.Positions.{position_of}
use Rattle.spill_code.specs.declared.spilling.Spilling.{Spilling}
use Rattle.spill_code.specs.Rewrite.{first_defined}

-- the index after code that sets a spilled register fits in 32 bits
abbrev pub KindHasRoom : Spilling → ItemKind → Origin → Type 0
KindHasRoom s (Code i k) o = (n : ℕ) → first_defined s.homes i.operands ≡ Some n → (position_of o).item + 1 < 2 ^ 32
KindHasRoom s (Mark v m) o = Unit {0}
KindHasRoom s (Phi p k) o = Unit {0}

-- if spilling adds a store after the item, its position has an index of 32 bits
abbrev pub HasRoom : Spilling → Item → Type 0
HasRoom s i = KindHasRoom s i.kind i.origin

-- this is so for all items of the blocks
abbrev pub HaveRoom : Spilling → List Block → Type 0
HaveRoom s blocks = All (λ b. All (HasRoom s) b.items) blocks
