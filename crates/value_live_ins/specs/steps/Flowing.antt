-- The correctness of a block's flow.
use Rattle.std.specs.Prelude.{◌≡◌, ℕ, suc, List, map, length, Option, None, Some, slice_get}
use Rattle.mir_func.specs.declared.block.Block.{Block}
use Rattle.mir_func.specs.declared.debug_substitution.OperandPair.{OperandPair}
use Rattle.mir_func.specs.declared.item.Item.{Item}
use Rattle.mir_func.specs.Graph.{Program}
use Rattle.mir_func.specs.Sound.{ids_of}
use Rattle.mir_func.specs.Successors.{ways}
use Rattle.sem_mir.specs.ValueId.{Tokens}
use Rattle.sem_value_ids.specs.Pullback.{InRegister, token_of, after_items}
use Rattle.value_solver.specs.declared.tracked.Tracked.{Tracked}
use Rattle.value_solver.specs.declared.flow.Change.{Change}
use Rattle.value_solver.specs.declared.flow.Flow.{Flow}
use Rattle.value_solver.specs.Joining.{source_at}
use Rattle.value_solver.specs.Flows.{token_at, told}

-- past the items the token of each entity is the one that the changes determine, if x2 has no token before them
pub record Tells (resolve : OperandPair → Option OperandPair) (xs : List Tracked) (items : List Item) (changes : List Change) : Type 0 where
  pub each : (n : ℕ) (t : Tokens) → token_of (InRegister 2) t ≡ None → (x : ℕ) →
      token_at xs x (after_items resolve n items t) ≡ told xs n t (source_at changes x)

-- the number of the next block, if there is one
abbrev pub next_id : List Block → ℕ → Option ℕ
next_id blocks b = slice_get (ids_of blocks) (suc b)

-- the flow of a block: its changes, and the indices of its successors
pub record IsFlowOf (g : Program) (blocks : List Block) (xs : List Tracked) (b : ℕ) (items : List Item) (f : Flow) : Type 0 where
  pub tells : Tells g.resolve xs items f.changes
  pub ways : f.ways ≡ map g.enter (ways items (next_id blocks b))

-- the flows of all blocks, in their order
pub record AreFlowsOf (g : Program) (blocks : List Block) (xs : List Tracked) (flows : List Flow) : Type 0 where
  pub long : length flows ≡ length blocks
  pub each : (b : ℕ) (block : Block) (f : Flow) → slice_get blocks b ≡ Some block → slice_get flows b ≡ Some f → IsFlowOf g blocks xs b block.items f
