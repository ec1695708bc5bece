-- DWARF 5's numbers for location lists, under the standard's names.
use Rattle.std.specs.Prelude.{ℕ}

-- the entry that ends a list (section 7.7.3)
abbrev pub DW_LLE_end_of_list : ℕ
DW_LLE_end_of_list = 0

-- an entry with the two ends of its range as offsets from the base address (section 7.7.3)
abbrev pub DW_LLE_offset_pair : ℕ
DW_LLE_offset_pair = 4

-- pushes a signed LEB128 number (section 7.7.1)
abbrev pub DW_OP_consts : ℕ
DW_OP_consts = 0x11

-- the value is in register 0; the operation for register n is this plus n (section 7.7.1)
abbrev pub DW_OP_reg0 : ℕ
DW_OP_reg0 = 0x50

-- the address is that in register 2 plus a signed LEB128 number (section 7.7.1)
abbrev pub DW_OP_breg2 : ℕ
DW_OP_breg2 = 0x72

-- the operations before it locate this number of the variable's bytes (section 7.7.1)
abbrev pub DW_OP_piece : ℕ
DW_OP_piece = 0x93

-- the value is the one on the stack (section 7.7.1)
abbrev pub DW_OP_stack_value : ℕ
DW_OP_stack_value = 0x9f
