-- The tags of types. (DWARF 5, section 7.5.3.)
use Rattle.std.specs.Prelude.{ℕ}

abbrev pub DW_TAG_class_type : ℕ
DW_TAG_class_type = 0x02

abbrev pub DW_TAG_enumeration_type : ℕ
DW_TAG_enumeration_type = 0x04

abbrev pub DW_TAG_pointer_type : ℕ
DW_TAG_pointer_type = 0x0f

abbrev pub DW_TAG_reference_type : ℕ
DW_TAG_reference_type = 0x10

abbrev pub DW_TAG_structure_type : ℕ
DW_TAG_structure_type = 0x13

abbrev pub DW_TAG_union_type : ℕ
DW_TAG_union_type = 0x17

abbrev pub DW_TAG_const_type : ℕ
DW_TAG_const_type = 0x26

abbrev pub DW_TAG_volatile_type : ℕ
DW_TAG_volatile_type = 0x35

abbrev pub DW_TAG_restrict_type : ℕ
DW_TAG_restrict_type = 0x37

abbrev pub DW_TAG_rvalue_reference_type : ℕ
DW_TAG_rvalue_reference_type = 0x42

abbrev pub DW_TAG_atomic_type : ℕ
DW_TAG_atomic_type = 0x47
