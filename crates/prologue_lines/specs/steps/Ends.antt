-- The rows of a table with prologue_end.
use Rattle.std.specs.Prelude.{ℕ, Bool, true, false, List, [], ◌∷◌}
use Rattle.std.specs.List.{count_by}
use Rattle.dwarf_line.specs.declared.table.Row.{Row}
use Rattle.dwarf_line.specs.declared.table.Sequence.{Sequence}

-- there is a second row
abbrev pub has_second : List Row → Bool
has_second [] = false
has_second (r ∷ []) = false
has_second (r ∷ s ∷ rows) = true

-- a sequence has one
abbrev pub has_end : Sequence → Bool
has_end s = has_second s.rows

-- the number of sequences with one
abbrev pub ends_in : List Sequence → ℕ
ends_in sequences = count_by has_end sequences
