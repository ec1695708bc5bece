-- DWARF 5's numbers for forms (section 7.5.6), beside those of dwarf_info, under the standard's names.
use Rattle.std.specs.Prelude.{ℕ}

-- a flag of one byte
abbrev pub DW_FORM_flag : ℕ
DW_FORM_flag = 0x0c

-- a number in signed LEB128
abbrev pub DW_FORM_sdata : ℕ
DW_FORM_sdata = 0x0d

-- a DWARF expression behind its length in unsigned LEB128
abbrev pub DW_FORM_exprloc : ℕ
DW_FORM_exprloc = 0x18

-- a flag that is set, in no byte
abbrev pub DW_FORM_flag_present : ℕ
DW_FORM_flag_present = 0x19
