-- The interpreter's memory, and the function of the definitions that it represents.
use Rattle.std.specs.Prelude.{◌≡◌, ℕ, List, [], ◌∷◌, Option, Some, None, nat_eq, unwrap_or}
use Rattle.std.specs.Map.{lookup}

-- the number of a key, or 0 if it has none
abbrev pub number_in : List (ℕ × ℕ) → ℕ → ℕ
number_in es k = unwrap_or (lookup (nat_eq k) es) 0

-- each byte of memory is that of the entries
abbrev pub MemoryHolds : List (ℕ × ℕ) → (ℕ → ℕ) → Type 0
MemoryHolds es held = (a : ℕ) → held a ≡ number_in es a

-- the writes of an answer
abbrev pub some_writes : List (Option (ℕ × ℕ)) → List (ℕ × ℕ)
some_writes [] = []
some_writes (Some w ∷ ws) = w ∷ some_writes ws
some_writes (None ∷ ws) = some_writes ws
