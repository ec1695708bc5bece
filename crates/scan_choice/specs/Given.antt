-- Tables of the physical registers that virtual registers get.
use Rattle.std.specs.Prelude.{ℕ, ◌-◌, List, slice_index_or, Option, None, cond, nat_le}

-- the one that a register gets, by a table of those of x32, x33 and so on
abbrev pub given_by : List (Option ℕ) → ℕ → Option ℕ
given_by given r = cond (nat_le 32 r) (slice_index_or given (r - 32) None) None
