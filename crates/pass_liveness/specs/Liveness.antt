-- The live-in sets of a function.
use Rattle.std.specs.Prelude.{◌≡◌, ◌↔◌, ℕ, zero, suc, List, [], ◌∷◌, length, Bool, true, Option, Some, None, slice_index_or}
use Rattle.rv64_instr.specs.declared.place.Place.{Place}
use Rattle.mir_func.specs.declared.block.Block.{Block}
use Rattle.mir_func.specs.declared.debug_substitution.OperandPair.{OperandPair}
use Rattle.mir_func.specs.declared.item.Item.{Item}
use Rattle.mir_func.specs.declared.position.Pos.{Pos}
use Rattle.mir_func.specs.Function.{Function}
use Rattle.mir_func.specs.Graph.{Program, Edge, program_of, block_start}
use Rattle.mir_func.specs.Sound.{AreApart, ids_of}
use Rattle.mir_func.specs.Successors.{GoesTo}
use Rattle.sem_mir.specs.Live.{Live}
use Rattle.pass_liveness.specs.Index.{index_in}
use Rattle.pass_liveness.specs.Sets.{has}

-- live-in sets: the function's slots, its block numbers, and for each block a set as words
pub record LiveSets : Type 0 where
  pub slots : List ℕ
  pub blocks : List ℕ
  pub starts : List (List ℕ)

-- the set at an index, or the empty one if there is none
abbrev pub set_at : List (List ℕ) → Option ℕ → List ℕ
set_at sets None = []
set_at sets (Some i) = slice_index_or sets i []

-- the set of the block with this number has the place
abbrev pub has_at_start : (slots blocks : List ℕ) → (sets : List (List ℕ)) → (block : ℕ) → Place → Bool
has_at_start slots blocks sets n x = has slots (set_at sets (index_in blocks n)) x

-- the test decides this property of the function's program, whatever its pairs resolve to, and whether or not its debug
-- values may read x2
abbrev pub DecidesIn : Function → (Program → Type 0) → Bool → Type 0
DecidesIn f P b = (sees_pointer : Bool) (resolve : OperandPair → Option OperandPair) → (b ≡ true) ↔ P (program_of sees_pointer f.blocks resolve)

-- the sets are exactly the places that are live at the starts of the function's blocks
pub record AreLiveSets (f : Function) (l : LiveSets) : Type 0 where
  pub slots : l.slots ≡ f.slots
  pub blocks : l.blocks ≡ ids_of f.blocks
  pub apart : AreApart l.blocks
  pub long : length l.starts ≡ length f.blocks
  pub starts : (n : ℕ) (x : Place) → DecidesIn f (λ g. Live g x (block_start n)) (has_at_start l.slots l.blocks l.starts n x)

-- a place is live after a position: live at some successor of it
abbrev pub LivePast : Program → Place → Pos → Type 0
LivePast g x p = (q : Pos) × Edge g p q × Live g x q

-- a place is live out of a block: live at the start of some successor
abbrev pub LiveOut : Program → Place → (block : ℕ) → Type 0
LiveOut g x b = (n : ℕ) × GoesTo g b n × Live g x (block_start n)

-- the items of the block at an index
abbrev pub items_at : List Block → ℕ → List Item
items_at [] b = []
items_at (c ∷ cs) zero = c.items
items_at (c ∷ cs) (suc b) = items_at cs b
