-- The blocks of a function whose dead copies lose their numbers.
use Rattle.std.specs.Prelude.{◌≡◌, ℕ, List, [], ◌∷◌, drop, length, Bool, true, false, Some, None, slice_get, slice_index_or}
use Rattle.mir_func.specs.declared.block.Block.{Block}
use Rattle.mir_func.specs.declared.item.Item.{Item}
use Rattle.mir_func.specs.declared.debug_substitution.DebugSubstitution.{DebugSubstitution}
use Rattle.pass_salvage.specs.pass_trait.declared.loss.Loss.{Loss}
use Rattle.pass_salvage.specs.SalvageAction.{going_from}
use Rattle.dce_salvage.specs.SalvageNumbers.{SoFar, salvage_down, numbered_copy}

-- the state between blocks: the blocks that are done, the substitutions, the next fresh number and the losses so far
pub record BlocksSoFar : Type 0 where
  pub blocks : List Block
  pub subs : List DebugSubstitution
  pub fresh : ℕ
  pub lost : List Loss

-- the state at the start of a block, from the state after the later blocks
abbrev pub in_block : Block → BlocksSoFar → SoFar
in_block b a = record { items = b.items; subs = a.subs; fresh = a.fresh; lost = a.lost }

-- a block's dead copies lose their numbers
abbrev pub salvage_block : (dead : List Bool) → Block → BlocksSoFar → SoFar
salvage_block dead b a = salvage_down (going_from 0 dead) dead (length b.items) (in_block b a)

-- the block is put before the later ones
abbrev pub with_front : Block → BlocksSoFar → SoFar → BlocksSoFar
with_front b a e = record { blocks = record b { items = e.items } ∷ a.blocks; subs = e.subs; fresh = e.fresh; lost = e.lost }

-- one more block
abbrev pub salvage_next : (dead : List Bool) → Block → BlocksSoFar → BlocksSoFar
salvage_next dead b a = with_front b a (salvage_block dead b a)

-- all blocks, from the last to the first; `dead` has for each block whether each of its items is dead
abbrev pub salvage_blocks : (dead : List (List Bool)) → List Block → BlocksSoFar → BlocksSoFar
salvage_blocks dead [] a = a
salvage_blocks dead (b ∷ bs) a = salvage_next (slice_index_or dead 0 []) b (salvage_blocks (drop 1 dead) bs a)

-- none of the items that are dead is a numbered copy
abbrev pub HasNoCopies : (dead : List Bool) → List Item → Type 0
HasNoCopies dead items = (n : ℕ) (x : Item) → slice_get items n ≡ Some x → slice_index_or dead n false ≡ true → numbered_copy x.kind ≡ None
