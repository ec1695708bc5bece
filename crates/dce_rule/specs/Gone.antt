-- The debug instruction numbers of dead code.
use Rattle.std.specs.Prelude.{◌≡◌, ℕ, List, [], ◌∷◌, Some, Bool, true, slice_get}
use Rattle.std.specs.List.{flat_map}
use Rattle.mir_func.specs.declared.block.Block.{Block}
use Rattle.mir_func.specs.declared.item.Item.{Item}
use Rattle.mir_func.specs.Function.{Function}
use Rattle.mir_func.specs.Sound.{code_number}
use Rattle.dce_rule.specs.Dead.{Places, Ends, is_dead, needed_at}

-- each item, with whether it is dead code
abbrev pub judged : List Item → (needed : Places) → List (Item × Bool)
judged [] needed = []
judged (i ∷ is) needed = (i, is_dead i.kind (needed_at is needed)) ∷ judged is needed

-- the items of all blocks in order, each with whether it is dead code
abbrev pub judged_of : Ends → List Block → List (Item × Bool)
judged_of ends blocks = flat_map (λ b. judged b.items (ends b.id)) blocks

-- some dead code has this number
pub record IsGone (ends : Ends) (f : Function) (k : ℕ) : Type 0 where
  pub index : ℕ
  pub item : Item
  pub stands : slice_get (judged_of ends f.blocks) index ≡ Some (item, true)
  pub number : code_number item.kind ≡ Some k
