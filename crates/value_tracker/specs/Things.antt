-- The list of tracked entities, their indices, and their classes at a block's start.
use Rattle.std.specs.Prelude.{◌≡◌, ℕ, ◌<◌, ◌≤◌, ◌%◌, List, length, Some, IsSome, Bool, false, cond, nat_eq, slice_get, slice_index, slice_index_or}
use Rattle.std.specs.HashMap.{get}
use Rattle.base_ids.specs.Limits.{MAX_OFFSET}
use Rattle.mir_func.specs.declared.variable.VarId.{VarId}
use Rattle.mir_substitution.specs.Index.{is_key}
use Rattle.value_proof.specs.sem_value_ids.Pullback.{InRegister, OfNumber}
use Rattle.value_solver.specs.declared.tracked.Tracked.{Tracked}
use Rattle.value_solver.specs.declared.tracked.Tracked.TheVariants.{Register, Slot, Pair, Part, Number}
use Rattle.value_solver.specs.Entry.{thing}
use Rattle.value_proof.specs.Classes.{Classes}
use Rattle.value_tracker.specs.declared.index.TrackedIndex.{TrackedIndex}

-- the offset of a doubleword of the largest frame, in bytes from x2
abbrev pub IsOffset : ℕ → Type 0
IsOffset n = (n % 8 ≡ 0) × (n ≤ MAX_OFFSET)

-- what the tracker requires of the list: the parts of variables come first, in their order; each register but x0 and x2, and the
-- constant 0, is in it; slots are doublewords of the frame
pub record AreThings (variables : List VarId) (things : List Tracked) : Type 0 where
  pub variables_first : (j : ℕ) (v : VarId) → slice_get variables j ≡ Some v → slice_get things j ≡ Some (Part v)
  pub parts : (j : ℕ) (v : VarId) → slice_get things j ≡ Some (Part v) → slice_get variables j ≡ Some v
  pub registers : (r : ℕ) → r < 32 → (r ≡ 0 → ⊥) → (r ≡ 2 → ⊥) → (j : ℕ) × (slice_get things j ≡ Some (Register r))
  pub zero : (j : ℕ) × (slice_get things j ≡ Some (Number 0))
  pub slots : (j n : ℕ) → slice_get things j ≡ Some (Slot n) → IsOffset n

-- the index maps each constant and each pair among the first n entities to its position in the list, and contains no others
pub record IndexesBelow (n : ℕ) (things : List Tracked) (index : TrackedIndex) : Type 0 where
  pub numbers : (c i : ℕ) → get nat_eq index.numbers c ≡ Some i → (i < n) × (slice_get things i ≡ Some (Number c))
  pub each_number : (c j : ℕ) → j < n → slice_get things j ≡ Some (Number c) → IsSome (get nat_eq index.numbers c)
  pub pairs : (k o i : ℕ) → get is_key index.pairs (k, o) ≡ Some i → (i < n) × (slice_get things i ≡ Some (Pair (record { number = k; operand = o })))
  pub each_pair : (k o j : ℕ) → j < n → slice_get things j ≡ Some (Pair (record { number = k; operand = o })) → IsSome (get is_key index.pairs (k, o))

-- the index is exact for the whole list
abbrev pub Indexes : List Tracked → TrackedIndex → Type 0
Indexes things index = IndexesBelow (length things) things index

-- the class of the entity at i if it has a token on every path (its bit is set), and 0 otherwise
abbrev pub settled_at : (classes : List ℕ) → (given : List Bool) → ℕ → ℕ
settled_at classes given i = cond (slice_index_or given i false) (slice_index classes i) 0

-- the list has the classes of the entities, in their order. x0 has the class of the constant 0, and x2 has class 0
pub record Settle (things : List Tracked) (settled : List ℕ) (class : Classes) : Type 0 where
  pub each : (i : ℕ) (x : Tracked) → slice_get things i ≡ Some x → slice_index settled i ≡ class (thing x)
  pub for_all : length settled ≡ length things
  pub zero : class (InRegister 0) ≡ class (OfNumber 0)
  pub pointer : class (InRegister 2) ≡ 0
