-- Sizes of what is to be written.
use Rattle.std.specs.Prelude.{ℕ, min}

-- a size as it is counted: a size above 2^64 - 1 counts as 2^64 - 1
abbrev pub capped : ℕ → ℕ
capped n = min n 18446744073709551615
