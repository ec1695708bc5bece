-- Location lists with the sizes of their variables.
use Rattle.std.specs.Prelude.{ℕ, ◌+◌, List, [], ◌∷◌, slice_index_or}
use Rattle.dwarf_loclists.specs.declared.range.Range.{Range}
use Rattle.sized_lists.specs.declared.list.SizedList.{SizedList}

-- the size at an index, and eight bytes where there is none
abbrev pub size_at : (sizes : List ℕ) → (index : ℕ) → ℕ
size_at sizes k = slice_index_or sizes k 8

-- lists, of which the first one's size has this index, each with its size
abbrev pub sized : (sizes : List ℕ) → (index : ℕ) → List (List Range) → List SizedList
sized sizes k [] = []
sized sizes k (ranges ∷ lists) = record { size = size_at sizes k; ranges = ranges } ∷ sized sizes (k + 1) lists
