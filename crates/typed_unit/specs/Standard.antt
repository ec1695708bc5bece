-- DWARF 5's numbers for the entries of functions and variables, beside those of dwarf_info and type_entries, under the standard's names.
use Rattle.std.specs.Prelude.{ℕ}

-- a block of a function's source (section 7.5.3)
abbrev pub DW_TAG_lexical_block : ℕ
DW_TAG_lexical_block = 0x0b

-- attributes (section 7.5.4): the program that made the unit
abbrev pub DW_AT_producer : ℕ
DW_AT_producer = 0x25

-- the file of a declaration
abbrev pub DW_AT_decl_file : ℕ
DW_AT_decl_file = 0x3a

-- the line of a declaration
abbrev pub DW_AT_decl_line : ℕ
DW_AT_decl_line = 0x3b

-- whether other units can name it
abbrev pub DW_AT_external : ℕ
DW_AT_external = 0x3f

-- the address from which a function's frame is counted
abbrev pub DW_AT_frame_base : ℕ
DW_AT_frame_base = 0x40

-- the name of a function's symbol
abbrev pub DW_AT_linkage_name : ℕ
DW_AT_linkage_name = 0x6e

-- the canonical frame address (section 7.7.1)
abbrev pub DW_OP_call_frame_cfa : ℕ
DW_OP_call_frame_cfa = 0x9c
