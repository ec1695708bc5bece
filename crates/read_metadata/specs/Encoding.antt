-- The codes of base types' encodings (DWARF 5, section 7.8, "Base Type Attribute Encodings").
use Rattle.std.specs.Prelude.{ℕ}

-- a linear machine address (DWARF 5, section 5.1.1)
abbrev pub DW_ATE_address : ℕ
DW_ATE_address = 0x01

-- true or false (DWARF 5, section 5.1.1)
abbrev pub DW_ATE_boolean : ℕ
DW_ATE_boolean = 0x02

-- a binary floating-point number (DWARF 5, section 5.1.1)
abbrev pub DW_ATE_float : ℕ
DW_ATE_float = 0x04

-- a signed binary integer (DWARF 5, section 5.1.1)
abbrev pub DW_ATE_signed : ℕ
DW_ATE_signed = 0x05

-- a signed character (DWARF 5, section 5.1.1)
abbrev pub DW_ATE_signed_char : ℕ
DW_ATE_signed_char = 0x06

-- an unsigned binary integer (DWARF 5, section 5.1.1)
abbrev pub DW_ATE_unsigned : ℕ
DW_ATE_unsigned = 0x07

-- an unsigned character (DWARF 5, section 5.1.1)
abbrev pub DW_ATE_unsigned_char : ℕ
DW_ATE_unsigned_char = 0x08

-- a Unicode character (DWARF 5, section 5.1.1)
abbrev pub DW_ATE_UTF : ℕ
DW_ATE_UTF = 0x10
