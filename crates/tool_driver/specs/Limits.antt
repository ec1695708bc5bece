-- The limit on the input's length.
use Rattle.std.specs.Prelude.{ℕ}

-- the most bytes that an input may have: 16 MiB
abbrev pub INPUT_LIMIT : ℕ
INPUT_LIMIT = 16777216
