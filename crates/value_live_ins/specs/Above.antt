-- What stands above an item in its block.
use Rattle.std.specs.Prelude.{◌≡◌, ℕ, ◌<◌, List, Contains, Some, nat_eq, slice_get}
use Rattle.std.specs.HashMap.{get}
use Rattle.mir_func.specs.declared.item.Item.{Item}
use Rattle.sem_value_ids.specs.Pullback.{OfPair}
use Rattle.value_proof.specs.Classes.{pairs_of}
use Rattle.value_live_ins.specs.declared.above.NumberedItems.{NumberedItems}

-- the indices that are kept are of items above the item with this index
abbrev pub AreAbove : (k : ℕ) → NumberedItems → Type 0
AreAbove k above = (n i : ℕ) → get nat_eq above.indices n ≡ Some i → i < k

-- the item at an index defines the pair
pub record DefinesAt (items : List Item) (i number operand : ℕ) : Type 0 where
  pub item : Item
  pub stands : slice_get items i ≡ Some item
  pub defines : Contains (pairs_of item.kind) (OfPair number operand)
