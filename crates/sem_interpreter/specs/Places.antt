-- The interpreter's registers, frame slots and stack objects, and the functions of the definitions that they
-- represent.
use Rattle.std.specs.Prelude.{◌≡◌, ℕ, List, Option, Some, None, cond, nat_eq, nat_lt, slice_index, slice_index_or, length}
use Rattle.std.specs.Map.{lookup}
use Rattle.sem_interpreter.specs.Memory.{number_in}
use Rattle.sem_mir.specs.State.{content}

-- there is an entry for each register, and that of x0 is 0
pub record AreRegisters (xs : List (Option ℕ)) : Type 0 where
  pub long : length xs ≡ 4128
  pub zero : slice_index_or xs 0 None ≡ Some 0

-- each register has its content in the list, none if it is unwritten
abbrev pub RegistersHold : List (Option ℕ) → (ℕ → Option ℕ) → Type 0
RegistersHold xs held = (r : ℕ) → content held r ≡ slice_index_or xs r None

-- the registers at the start of a run: the physical ones are written
abbrev pub starting_registers : List ℕ → ℕ → Option ℕ
starting_registers start r = cond (nat_lt r 32) (Some (slice_index start r)) None

-- each slot has the content of its entry
abbrev pub SlotsHold : List (ℕ × ℕ) → (ℕ → Option ℕ) → Type 0
SlotsHold es held = (n : ℕ) → held n ≡ lookup (nat_eq n) es

-- each stack object has the offset of its entry
abbrev pub ObjectsHold : List (ℕ × ℕ) → (ℕ → ℕ) → Type 0
ObjectsHold es held = (n : ℕ) → held n ≡ number_in es n
