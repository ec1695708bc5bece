-- The successors of a block: where control may go from it, whatever the data.
use Rattle.std.specs.Prelude.{ℕ, ◌<◌, List, [], ◌∷◌, Option, option_to_list}
use Rattle.mir_func.specs.declared.position.Pos.{Pos}
use Rattle.mir_func.specs.declared.item.Item.{Item}
use Rattle.mir_func.specs.declared.exit.Exit.{Exit}
use Rattle.mir_func.specs.declared.exit.Exit.TheVariants.{Onward, Perhaps, Always, Final}
use Rattle.mir_func.specs.declared.successors.Successors.{Successors}
use Rattle.mir_func.specs.declared.successors.Successors.TheVariants.{Nowhere, One, Two}
use Rattle.mir_func.specs.Graph.{Program, below, block_start}
use Rattle.mir_func.specs.Graph.{Edge}
use Rattle.mir_func.specs.Exits.{exit_of}

-- the numbers of a block's successors, a branch's target first
abbrev pub numbers_of : Successors → List ℕ
numbers_of Nowhere = []
numbers_of (One n) = n ∷ []
numbers_of (Two m n) = m ∷ n ∷ []

-- the position of this index in a block
abbrev pub pos_in : (block item : ℕ) → Pos
pos_in b k = record { block = b; item = k }

-- control may fall through a block from its start to this index
abbrev pub ComesDown : Program → (block item : ℕ) → Type 0
ComesDown g b k = (j : ℕ) → j < k → Edge g (pos_in b j) (below (pos_in b j))

-- control may fall through block b to a position that has an edge to the start of block n
abbrev pub GoesTo : Program → (b n : ℕ) → Type 0
GoesTo g b n = (k : ℕ) × ComesDown g b k × Edge g (pos_in b k) (block_start n)

-- the successors' numbers from an item with this exit on, if those from the item below on are these
abbrev pub ways_from : Exit → List ℕ → List ℕ
ways_from Onward rest = rest
ways_from (Perhaps n) rest = n ∷ rest
ways_from (Always n) rest = n ∷ []
ways_from Final rest = []

-- the successors' numbers of items after which the block with this number comes, if one does
abbrev pub ways : List Item → (next : Option ℕ) → List ℕ
ways [] next = option_to_list next
ways (i ∷ is) next = ways_from (exit_of i.kind) (ways is next)
