-- The index of a block by its number.
use Rattle.std.specs.Prelude.{◌≡◌, ◌≤◌, ◌<◌, ℕ, List, All, length, map, Some, nat_eq, slice_get, unwrap_or}
use Rattle.std.specs.HashMap.{HashMap, get}
use Rattle.std.specs.declared.hash.FoldHasher.{FoldHasher}
use Rattle.std.specs.declared.hash.BuildHasherDefault.{BuildHasherDefault}
use Rattle.mir_func.specs.declared.block.Block.{Block}
use Rattle.mir_func.specs.Resolve.{resolve}
use Rattle.mir_func.specs.Successors.{ways}
use Rattle.mir_func.specs.Sound.{HasForm}
use Rattle.value_solver.specs.declared.flow.Flow.{Flow}
use Rattle.value_solver.specs.Joining.{AreWithin}
use Rattle.value_live_ins.specs.declared.changes.Tracking.{Tracking}
use Rattle.value_live_ins.specs.steps.Flowing.{Tells, next_id}

-- a table of indices by number
abbrev pub Indices : Type 0
Indices = HashMap ℕ ℕ (BuildHasherDefault FoldHasher)

-- the index found for a number, or 0 if none is
abbrev pub enter_by : Indices → ℕ → ℕ
enter_by t n = unwrap_or (get nat_eq t n) 0

-- among the first n blocks each but the prologue is found by its number, if numbers are distinct
pub record FindsIds (n : ℕ) (blocks : List Block) (t : Indices) : Type 0 where
  pub each : ((i j : ℕ) (a b : Block) → 1 ≤ i → 1 ≤ j → slice_get blocks i ≡ Some a → slice_get blocks j ≡ Some b → a.id ≡ b.id → i ≡ j) →
      (i : ℕ) (b : Block) → 1 ≤ i → i < n → slice_get blocks i ≡ Some b → get nat_eq t b.id ≡ Some i

-- the flow of the block at index b: its changes are right and in range, its successors are looked up by number, and each
-- instruction of the block has its opcode's form
pub record IsFlowAt (t : Tracking) (indices : Indices) (blocks : List Block) (b : ℕ) (f : Flow) : Type 0 where
  pub tells : (block : Block) → slice_get blocks b ≡ Some block → Tells (resolve t.subs.now) t.things.now block.items f.changes
  pub within : AreWithin (length t.things.now) f.changes
  pub forms : (block : Block) → slice_get blocks b ≡ Some block → All (λ i. HasForm i.kind) block.items
  pub ways : (block : Block) → slice_get blocks b ≡ Some block → f.ways ≡ map (enter_by indices) (ways block.items (next_id blocks b))

-- the flows of the first n blocks
pub record FlowsBelow (t : Tracking) (indices : Indices) (blocks : List Block) (n : ℕ) (flows : List Flow) : Type 0 where
  pub long : length flows ≡ n
  pub each : (b : ℕ) (f : Flow) → slice_get flows b ≡ Some f → IsFlowAt t indices blocks b f
