-- The states in which a run of a function may start.
use Rattle.std.specs.Prelude.{◌≡◌, ℕ, ◌^◌, ◌<◌, ◌≤◌, List, [], ◌∷◌, All, Some, None}
use Rattle.mir_func.specs.declared.block.Block.{Block}
use Rattle.mir_func.specs.declared.object.Object.{Object}
use Rattle.mir_func.specs.Limits.{FRAME_ROOM}
use Rattle.mir_func.specs.Objects.{area_of, offset_of}
use Rattle.sem_mir.specs.State.{IsReply, State, content}
use Rattle.mir_func.specs.Graph.{block_start}

-- the number of the entry block, or 0 if there are no blocks
abbrev pub first_of : List Block → ℕ
first_of [] = 0
first_of (b ∷ bs) = b.id

-- a start state of a function with these stack objects: x2 has room for a frame below it, the other physical
-- registers and memory are arbitrary, and no virtual register, slot, pair or variable has a value
pub record IsInitialState (stack : List Object) (first : ℕ) (s : State) : Type 0 where
  pub pos : s.pos ≡ block_start first
  pub regs : (r : ℕ) → r < 32 → (v : ℕ) × (content s.core.regs r ≡ Some v) × (v < 2 ^ 64)
  pub virtual : (r : ℕ) → 32 ≤ r → content s.core.regs r ≡ None
  pub pointer : content s.core.regs 2 ≡ Some s.core.entry
  pub room : FRAME_ROOM ≤ s.core.entry
  pub area : s.core.area ≡ area_of stack
  pub objects : (n : ℕ) → s.core.objects n ≡ offset_of stack n
  pub slots : (n : ℕ) → s.core.slots n ≡ None
  pub memory : (a : ℕ) → s.core.memory a < 256
  pub script : All IsReply s.core.script
  pub events : s.core.events ≡ []
  pub pairs : (k o : ℕ) → s.core.pairs k o ≡ None
  pub marks : s.core.marks ≡ []
