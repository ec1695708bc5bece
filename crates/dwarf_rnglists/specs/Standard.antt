-- DWARF 5's numbers for range lists, under the standard's names.
use Rattle.std.specs.Prelude.{ℕ}

-- the entry that ends a list (section 7.25)
abbrev pub DW_RLE_end_of_list : ℕ
DW_RLE_end_of_list = 0

-- an entry with the two ends of its range as offsets from the base address (section 7.25)
abbrev pub DW_RLE_offset_pair : ℕ
DW_RLE_offset_pair = 4
