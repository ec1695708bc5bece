-- The steps of a dataflow analysis and its fixpoint. Blocks are named by their indices; a state has what is known of all blocks.
use Rattle.std.specs.Prelude.{◌≡◌, ℕ, ◌+◌, ◌<◌, ◌≤◌, List, Bool, true, false, Contains}

-- `IsValid` is the invariant of states, `IsClosed` the dataflow equation of a block, and `height` bounds the number of changes
-- that are left
module _ {S : Type 0} (IsValid : S → Type 0) (IsClosed : S → (block : ℕ) → Type 0) (height : S → ℕ) where
  -- a visit of a block. A change lowers the state; without one the block's equation holds, and no other one is lost
  pub record Visited (old new : S) (block : ℕ) (changed : Bool) : Type 0 where
    pub valid : IsValid new
    pub level : height new ≤ height old
    pub lower : changed ≡ true → height new < height old
    pub closed : changed ≡ false → IsClosed new block
    pub kept : changed ≡ false → (b : ℕ) → IsClosed old b → IsClosed new b

  -- a sweep: visits of these blocks, one after the other
  pub record SweepStep (old new : S) (order : List ℕ) (changed : Bool) : Type 0 where
    pub valid : IsValid new
    pub level : height new ≤ height old
    pub lower : changed ≡ true → height new < height old
    pub closed : changed ≡ false → (b : ℕ) → Contains order b → IsClosed new b

  -- the fixpoint: the state satisfies the equations of all blocks. Each sweep but the last one lowered it
  pub record Fixpoint (blocks : ℕ) (old new : S) (sweeps : ℕ) : Type 0 where
    pub valid : IsValid new
    pub closed : (b : ℕ) → b < blocks → IsClosed new b
    pub few : sweeps + height new ≤ height old + 1
