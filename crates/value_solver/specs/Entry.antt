-- The live-in values of a block: what holds on all paths to the block's start.
use Rattle.std.specs.Prelude.{◌≡◌, ◌↔◌, ℕ, List, [], length, slice_get, Some, None, Bool, false, IsTrue, IsSome}
use Rattle.mir_func.specs.Graph.{Program, block_start}
use Rattle.sem_value_ids.specs.sem_mir.ValueId.{Tokens, Path}
use Rattle.sem_value_ids.specs.Pullback as path
use Rattle.sem_value_ids.specs.Pullback.{InRegister, InSlot, OfPair, OfVariable, OfNumber, token_of}
use Rattle.value_solver.specs.declared.tracked.Tracked.{Tracked}
use Rattle.value_solver.specs.declared.tracked.Tracked.TheVariants.{Register, Slot, Pair, Part, Number}
use Rattle.value_solver.specs.declared.entry.BlockEntry.{BlockEntry}

-- a tracked entity, as the laws about tokens name it
abbrev pub thing : Tracked → path.Tracked
thing (Register r) = InRegister r
thing (Slot n) = InSlot n
thing (Pair q) = OfPair q.number q.operand
thing (Part v) = OfVariable v
thing (Number c) = OfNumber c

-- a path of n steps from the function's start (that of the prologue) to the start of a block, with these tokens at its end
abbrev pub PathTo : Program → (block : ℕ) → (n : ℕ) → Tokens → Type 0
PathTo g b n t = Path g (block_start 0) n (block_start b) t

-- some path leads to the start of a block
abbrev pub IsReached : Program → (block : ℕ) → Type 0
IsReached g b = (n : ℕ) × (t : Tokens) × PathTo g b n t

-- on each path to the block's start both entities have the same token, or neither has one
abbrev pub AreAlike : Program → (block : ℕ) → (x y : path.Tracked) → Type 0
AreAlike g b x y = (n : ℕ) (t : Tokens) → PathTo g b n t → token_of x t ≡ token_of y t

-- on each path to it the entity has a token
abbrev pub IsGiven : Program → (block : ℕ) → path.Tracked → Type 0
IsGiven g b x = (n : ℕ) (t : Tokens) → PathTo g b n t → IsSome (token_of x t)

-- on no path to it the entity has a token
abbrev pub HasNone : Program → (block : ℕ) → path.Tracked → Type 0
HasNone g b x = (n : ℕ) (t : Tokens) → PathTo g b n t → token_of x t ≡ None

-- the classes and `given` bits of tracked entities, in the order of their list, for all paths to the start of a block
pub record AreClasses (g : Program) (tracked : List Tracked) (b : ℕ) (classes : List ℕ) (given : List Bool) : Type 0 where
  -- both lists have an element for each tracked entity
  pub classes_for_all : length classes ≡ length tracked
  pub given_for_all : length given ≡ length tracked
  -- two entities have the same class if and only if they have the same token, or both none, on each path
  pub one : (i j c d : ℕ) (x y : Tracked) → slice_get tracked i ≡ Some x → slice_get tracked j ≡ Some y → slice_get classes i ≡ Some c →
      slice_get classes j ≡ Some d → (c ≡ d) ↔ AreAlike g b (thing x) (thing y)
  -- an entity's bit is set if and only if it has a token on each path
  pub bit : (i : ℕ) (x : Tracked) (z : Bool) → slice_get tracked i ≡ Some x → slice_get given i ≡ Some z → IsTrue z ↔ IsGiven g b (thing x)
  -- an entity has class 0 if and only if it has no token on any path
  pub nothing : (i c : ℕ) (x : Tracked) → slice_get tracked i ≡ Some x → slice_get classes i ≡ Some c → (c ≡ 0) ↔ HasNone g b (thing x)

-- the entry is exact: it describes all paths to the start of a block, for these tracked entities
pub record IsEntry (g : Program) (tracked : List Tracked) (b : ℕ) (e : BlockEntry) : Type 0 where
  pub reached : IsTrue e.reached ↔ IsReached g b
  pub classes : IsReached g b → AreClasses g tracked b e.classes e.given
  -- the entry of an unreached block is empty
  pub unreached : e.reached ≡ false → (e.classes ≡ []) × (e.given ≡ [])
