-- A pseudorandom sequence, determined by its seed.
use Rattle.std.specs.Prelude.{ℕ, ◌+◌, ◌*◌, ◌%◌}

-- the state of the sequence, and the number of debug instruction numbers that are used
pub record Drawn : Type 0 where
  pub state : ℕ
  pub given : ℕ

-- The next state. The random number below n is its remainder by n.
unfoldable pub next : (state : ℕ) → ℕ
next s = (75 * s + 74) % 65537

-- the state after one more random number
abbrev pub draw : Drawn → Drawn
draw d = record d { state = next d.state }

-- one more debug instruction number is used
abbrev pub give : Drawn → Drawn
give d = record d { given = d.given + 1 }
