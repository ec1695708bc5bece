-- DWARF 5's numbers for the locations of variables with sizes, under the standard's names.
use Rattle.std.specs.Prelude.{ℕ}

-- the operations before it locate this number of the variable's bits (section 7.7.1)
abbrev pub DW_OP_bit_piece : ℕ
DW_OP_bit_piece = 0x9d
