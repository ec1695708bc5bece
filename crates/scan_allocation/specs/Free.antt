-- From which code numbers on physical registers are free, as a list.
use Rattle.std.specs.Prelude.{ℕ, List, slice_index_or}

-- of the register with this number; a register past the list is free
abbrev pub free_by : List ℕ → ℕ → ℕ
free_by numbers r = slice_index_or numbers r 0
