-- The numbers that classes have so far.
use Rattle.std.specs.Prelude.{ℕ, length, cond, nat_eq, nat_lt, Option, None, slice_index_or}
use Rattle.std.specs.HashMap.{get}
use Rattle.value_solver.specs.declared.renumber.Numbers.{Numbers}

-- the number of a class, if it has one
abbrev pub number_of : Numbers → ℕ → Option ℕ
number_of t class = cond (nat_lt class (length t.near.items)) (slice_index_or t.near.items class None) (get nat_eq t.far class)

-- the same of a pair of class 0 and this one; no other pair has a number
abbrev pub number_alone : Numbers → ℕ × ℕ → Option ℕ
number_alone t k = cond (nat_eq 0 k.0) (number_of t k.1) None
