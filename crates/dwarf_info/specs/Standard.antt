-- DWARF 5's numbers for entries and their abbreviations, under the standard's names.
use Rattle.std.specs.Prelude.{ℕ}

-- tags (section 7.5.3)
abbrev pub DW_TAG_formal_parameter : ℕ
DW_TAG_formal_parameter = 0x05

-- the unit itself, the root of its entries
abbrev pub DW_TAG_compile_unit : ℕ
DW_TAG_compile_unit = 0x11

-- a base type, as `int`
abbrev pub DW_TAG_base_type : ℕ
DW_TAG_base_type = 0x24

-- a function
abbrev pub DW_TAG_subprogram : ℕ
DW_TAG_subprogram = 0x2e

-- the code of a function that was inlined at a call
abbrev pub DW_TAG_inlined_subroutine : ℕ
DW_TAG_inlined_subroutine = 0x1d

-- a variable that is no parameter
abbrev pub DW_TAG_variable : ℕ
DW_TAG_variable = 0x34

-- whether an entry has children (section 7.5.3)
abbrev pub DW_CHILDREN_no : ℕ
DW_CHILDREN_no = 0x00

-- children follow, and a null entry ends them
abbrev pub DW_CHILDREN_yes : ℕ
DW_CHILDREN_yes = 0x01

-- attributes (section 7.5.4)
abbrev pub DW_AT_location : ℕ
DW_AT_location = 0x02

-- the name in the source
abbrev pub DW_AT_name : ℕ
DW_AT_name = 0x03

-- the size of a base type in bytes
abbrev pub DW_AT_byte_size : ℕ
DW_AT_byte_size = 0x0b

-- the offset of the unit's line number table in .debug_line
abbrev pub DW_AT_stmt_list : ℕ
DW_AT_stmt_list = 0x10

-- the first address of the code of a unit or a function
abbrev pub DW_AT_low_pc : ℕ
DW_AT_low_pc = 0x11

-- the end of the code, here as a length from DW_AT_low_pc
abbrev pub DW_AT_high_pc : ℕ
DW_AT_high_pc = 0x12

-- the source language of the unit
abbrev pub DW_AT_language : ℕ
DW_AT_language = 0x13

-- the directory in which the unit was compiled
abbrev pub DW_AT_comp_dir : ℕ
DW_AT_comp_dir = 0x1b

-- whether a function was inlined, in its abstract entry
abbrev pub DW_AT_inline : ℕ
DW_AT_inline = 0x20

-- the abstract entry of what an entry is an instance of
abbrev pub DW_AT_abstract_origin : ℕ
DW_AT_abstract_origin = 0x31

-- the encoding of a base type, such as signed or unsigned
abbrev pub DW_AT_encoding : ℕ
DW_AT_encoding = 0x3e

-- the entry of the type of a variable or a parameter
abbrev pub DW_AT_type : ℕ
DW_AT_type = 0x49

-- the addresses of an entry's code, as a range list
abbrev pub DW_AT_ranges : ℕ
DW_AT_ranges = 0x55

-- the column of a call
abbrev pub DW_AT_call_column : ℕ
DW_AT_call_column = 0x57

-- the file of a call, by its number in the line number table
abbrev pub DW_AT_call_file : ℕ
DW_AT_call_file = 0x58

-- the line of a call
abbrev pub DW_AT_call_line : ℕ
DW_AT_call_line = 0x59

-- the offset in .debug_rnglists of the unit's offsets of range lists
abbrev pub DW_AT_rnglists_base : ℕ
DW_AT_rnglists_base = 0x74

-- the offset in .debug_loclists of the unit's offsets of location lists
abbrev pub DW_AT_loclists_base : ℕ
DW_AT_loclists_base = 0x8c

-- forms (sections 7.5.5 and 7.5.6)
abbrev pub DW_FORM_addr : ℕ
DW_FORM_addr = 0x01

-- a constant of two bytes
abbrev pub DW_FORM_data2 : ℕ
DW_FORM_data2 = 0x05

-- a constant of four bytes
abbrev pub DW_FORM_data4 : ℕ
DW_FORM_data4 = 0x06

-- a constant of one byte
abbrev pub DW_FORM_data1 : ℕ
DW_FORM_data1 = 0x0b

-- an entry of the same unit: its offset from the unit's first byte, in four bytes
abbrev pub DW_FORM_ref4 : ℕ
DW_FORM_ref4 = 0x13

-- an offset into another debug section, four bytes in 32-bit DWARF
abbrev pub DW_FORM_sec_offset : ℕ
DW_FORM_sec_offset = 0x17

-- a location list by its index among the offsets of .debug_loclists, in ULEB128
abbrev pub DW_FORM_loclistx : ℕ
DW_FORM_loclistx = 0x22

-- a range list by its index among the offsets of .debug_rnglists, in ULEB128
abbrev pub DW_FORM_rnglistx : ℕ
DW_FORM_rnglistx = 0x23

-- the function was inlined, and not declared so (section 7.21)
abbrev pub DW_INL_inlined : ℕ
DW_INL_inlined = 0x01

-- a compilation unit (section 7.5.1)
abbrev pub DW_UT_compile : ℕ
DW_UT_compile = 0x01

-- the language of the unit (section 7.12)
abbrev pub DW_LANG_C99 : ℕ
DW_LANG_C99 = 0x000c

-- the offset that the unit's location lists count from: after the header of .debug_loclists, at its first offset (section 7.29)
abbrev pub LOCLISTS_BASE : ℕ
LOCLISTS_BASE = 12

-- the offset that the unit's range lists count from: after the header of .debug_rnglists, at its first offset (section 7.28)
abbrev pub RNGLISTS_BASE : ℕ
RNGLISTS_BASE = 12

-- the bytes of the unit's header (section 7.5.1.1)
abbrev pub HEADER_LENGTH : ℕ
HEADER_LENGTH = 12
