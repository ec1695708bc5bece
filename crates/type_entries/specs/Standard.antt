-- DWARF 5's numbers for the entries of types, under the standard's names.
use Rattle.std.specs.Prelude.{ℕ}

-- tags (section 7.5.3)
abbrev pub DW_TAG_array_type : ℕ
DW_TAG_array_type = 0x01

abbrev pub DW_TAG_enumeration_type : ℕ
DW_TAG_enumeration_type = 0x04

-- a member of a structure, a union or a class
abbrev pub DW_TAG_member : ℕ
DW_TAG_member = 0x0d

abbrev pub DW_TAG_subroutine_type : ℕ
DW_TAG_subroutine_type = 0x15

abbrev pub DW_TAG_typedef : ℕ
DW_TAG_typedef = 0x16

-- more parameters may follow
abbrev pub DW_TAG_unspecified_parameters : ℕ
DW_TAG_unspecified_parameters = 0x18

-- a dimension of an array
abbrev pub DW_TAG_subrange_type : ℕ
DW_TAG_subrange_type = 0x21

abbrev pub DW_TAG_enumerator : ℕ
DW_TAG_enumerator = 0x28

-- attributes (section 7.5.4)
abbrev pub DW_AT_bit_size : ℕ
DW_AT_bit_size = 0x0d

abbrev pub DW_AT_const_value : ℕ
DW_AT_const_value = 0x1c

-- whether a function's parameters are declared
abbrev pub DW_AT_prototyped : ℕ
DW_AT_prototyped = 0x27

-- the number of elements of a dimension
abbrev pub DW_AT_count : ℕ
DW_AT_count = 0x37

-- the offset of a member in bytes
abbrev pub DW_AT_data_member_location : ℕ
DW_AT_data_member_location = 0x38

-- an entry that only declares
abbrev pub DW_AT_declaration : ℕ
DW_AT_declaration = 0x3c

-- the offset of a member in bits
abbrev pub DW_AT_data_bit_offset : ℕ
DW_AT_data_bit_offset = 0x6b
