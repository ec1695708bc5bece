-- The bytes left in a source and the bytes written to a sink, if they are known, and the effect of a call on them.
-- No call changes whether they are known.
use Rattle.std.specs.Prelude.{◌≡◌, ℕ, ◌≤◌, ◌⊎◌, List, [], ◌++◌, length, Option, None, Some}
use Rattle.std.specs.Option.{option_map}
use Rattle.base_io.specs.Faults.{CountRose}

-- the known bytes, with these before them
abbrev pub with_front : List ℕ → Option (List ℕ) → Option (List ℕ)
with_front bytes told = option_map (λ rest. bytes ++ rest) told

-- the known bytes, with these after them
abbrev pub with_end : Option (List ℕ) → List ℕ → Option (List ℕ)
with_end told bytes = option_map (λ start. start ++ bytes) told

-- these bytes were the first of those left, and were taken
abbrev pub Takes : Option (List ℕ) → Option (List ℕ) → List ℕ → Type 0
Takes old new bytes = old ≡ with_front bytes new

-- so many bytes were the first of those left, and were taken
abbrev pub TakesCount : Option (List ℕ) → Option (List ℕ) → ℕ → Type 0
TakesCount old new count = (bytes : List ℕ) × (length bytes ≡ count) × Takes old new bytes

-- at most so many bytes were the first of those left, and were taken
abbrev pub TakesAtMost : Option (List ℕ) → Option (List ℕ) → ℕ → Type 0
TakesAtMost old new most = (bytes : List ℕ) × (length bytes ≤ most) × Takes old new bytes

-- no byte is left, if the bytes left are known
abbrev pub IsAtEnd : Option (List ℕ) → Type 0
IsAtEnd None = Unit {0}
IsAtEnd (Some left) = left ≡ []

-- these bytes were written, after those written before
abbrev pub Appends : Option (List ℕ) → Option (List ℕ) → List ℕ → Type 0
Appends old new bytes = new ≡ with_end old bytes

-- a prefix of these bytes was written, after those written before
abbrev pub AppendsPrefix : Option (List ℕ) → Option (List ℕ) → List ℕ → Type 0
AppendsPrefix old new bytes = (done rest : List ℕ) × (bytes ≡ done ++ rest) × Appends old new done

-- these bytes were written, after those written before; or only a prefix of them, if the count of faults rose
abbrev pub AppendsUnlessFault : Option (List ℕ) → Option (List ℕ) → ℕ → ℕ → List ℕ → Type 0
AppendsUnlessFault old new faults_old faults_new bytes =
    Appends old new bytes ⊎ (AppendsPrefix old new bytes × CountRose faults_old faults_new)
