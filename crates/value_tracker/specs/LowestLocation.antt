-- The first location of each class.
use Rattle.std.specs.Prelude.{◌≡◌, ◌≢◌, ℕ, ◌<◌, List, length, Option, Some, None, slice_index, slice_index_or}

-- the lowest location index from 1 up to the end, exclusive, with class c, or None if there is none. Index 0 (x0) never counts
abbrev pub IsFirstBelow : (end : ℕ) → (places : List ℕ) → (c : ℕ) → Option ℕ → Type 0
IsFirstBelow end places c None = (i : ℕ) → 0 < i → i < end → slice_index places i ≢ c
IsFirstBelow end places c (Some k) = (0 < k) × (k < end) × (slice_index places k ≡ c) × ((i : ℕ) → 0 < i → i < k → slice_index places i ≢ c)

-- the table has the first location index of each class
abbrev pub AreFirsts : (places : List ℕ) → List (Option ℕ) → Type 0
AreFirsts places firsts = (c : ℕ) → IsFirstBelow (length places) places c (slice_index_or firsts c None)
