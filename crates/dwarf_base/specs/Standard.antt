-- The numbers of DWARF 5 that several sections share, under their names in the standard if they have one.
use Rattle.std.specs.Prelude.{ℕ}

-- the version of a section (sections 7.5.1.1, 7.24, 7.28 and 7.29)
abbrev pub VERSION : ℕ
VERSION = 5

-- the bytes of an address (RV64)
abbrev pub ADDRESS_SIZE : ℕ
ADDRESS_SIZE = 8

-- the bytes of a segment selector: 0, since there are no segments
abbrev pub SEGMENT_SELECTOR_SIZE : ℕ
SEGMENT_SELECTOR_SIZE = 0

-- the limit on a section's length in the 32-bit format, exclusive (section 7.4)
abbrev pub LENGTH_LIMIT : ℕ
LENGTH_LIMIT = 4294967280

-- the form of a string that ends with a zero byte (section 7.5.6)
abbrev pub DW_FORM_string : ℕ
DW_FORM_string = 8

-- the form of an unsigned LEB128 number (section 7.5.6)
abbrev pub DW_FORM_udata : ℕ
DW_FORM_udata = 15
