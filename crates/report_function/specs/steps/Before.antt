-- The number of words that begin before an address.
use Rattle.std.specs.Prelude.{ℕ, ◌+◌, ◌-◌, ◌/◌, min}

-- the number of words that begin before address x, of `count` words from address `base` on
unfoldable pub words_before : (base count address : ℕ) → ℕ
words_before base count x = min count ((x - base + 3) / 4)
