-- DWARF 5's numbers for line number tables, under their names in the standard if they have one.
use Rattle.std.specs.Prelude.{ℕ, List, [], ◌∷◌}
use Rattle.dwarf_base.specs.Standard.{DW_FORM_string, DW_FORM_udata}

-- the standard opcodes that are written (sections 6.2.5.2 and 7.22). This one appends a row of the registers to the table
abbrev pub DW_LNS_copy : ℕ
DW_LNS_copy = 0x01

-- advances the address register by an unsigned number
abbrev pub DW_LNS_advance_pc : ℕ
DW_LNS_advance_pc = 0x02

-- advances the line register by a signed number
abbrev pub DW_LNS_advance_line : ℕ
DW_LNS_advance_line = 0x03

-- sets the file register to the number of a file of the header
abbrev pub DW_LNS_set_file : ℕ
DW_LNS_set_file = 0x04

-- sets the column register to a number
abbrev pub DW_LNS_set_column : ℕ
DW_LNS_set_column = 0x05

-- the first byte of an extended opcode (section 6.2.5.3). The number of bytes that follow, as ULEB128, and the opcode come after
-- it
abbrev pub EXTENDED_OPCODE : ℕ
EXTENDED_OPCODE = 0x00

-- the extended opcodes that are written (sections 6.2.5.3 and 7.22). This one ends a sequence
abbrev pub DW_LNE_end_sequence : ℕ
DW_LNE_end_sequence = 0x01

-- sets the address register to an address, which follows in eight bytes
abbrev pub DW_LNE_set_address : ℕ
DW_LNE_set_address = 0x02

-- the content of an entry in the tables of directories and files (sections 6.2.4.1 and 7.22): its path, and its directory's
-- number
abbrev pub DW_LNCT_path : ℕ
DW_LNCT_path = 0x1

-- the index of a file's directory in the table of directories
abbrev pub DW_LNCT_directory_index : ℕ
DW_LNCT_directory_index = 0x2

-- fields of the header (section 6.2.4): the bytes of the smallest instruction, the unit of address advances
abbrev pub MINIMUM_INSTRUCTION_LENGTH : ℕ
MINIMUM_INSTRUCTION_LENGTH = 1

-- the operations per instruction: RISC-V has no VLIW
abbrev pub MAXIMUM_OPERATIONS_PER_INSTRUCTION : ℕ
MAXIMUM_OPERATIONS_PER_INSTRUCTION = 1

-- whether a row is the beginning of a statement by default: each is
abbrev pub DEFAULT_IS_STMT : ℕ
DEFAULT_IS_STMT = 1

-- the line base of special opcodes: -5 in one byte. No special opcode is written
abbrev pub LINE_BASE : ℕ
LINE_BASE = 0xfb

-- the number of different line advances of special opcodes
abbrev pub LINE_RANGE : ℕ
LINE_RANGE = 14

-- the first special opcode: the twelve standard ones are below it
abbrev pub OPCODE_BASE : ℕ
OPCODE_BASE = 13

-- the number of LEB128 operands of each standard opcode, from DW_LNS_copy to DW_LNS_set_isa (section 6.2.5.2). For
-- DW_LNS_fixed_advance_pc, whose operand is no LEB128 number, it is 1 too
abbrev pub STANDARD_OPCODE_LENGTHS : List ℕ
STANDARD_OPCODE_LENGTHS = 0 ∷ 1 ∷ 1 ∷ 1 ∷ 1 ∷ 0 ∷ 0 ∷ 0 ∷ 1 ∷ 0 ∷ 0 ∷ 1 ∷ []

-- the header fields from minimum_instruction_length to standard_opcode_lengths, one byte each
abbrev pub instruction_fields : List ℕ
instruction_fields =
    MINIMUM_INSTRUCTION_LENGTH ∷ MAXIMUM_OPERATIONS_PER_INSTRUCTION ∷ DEFAULT_IS_STMT ∷ LINE_BASE ∷ LINE_RANGE ∷ OPCODE_BASE ∷ STANDARD_OPCODE_LENGTHS

-- the format of a directory's entry (section 6.2.4): one pair, for its path as a string
abbrev pub directory_format : List ℕ
directory_format = 1 ∷ DW_LNCT_path ∷ DW_FORM_string ∷ []

-- the format of a file's entry: two pairs, for its path as a string and its directory's index in ULEB128
abbrev pub file_format : List ℕ
file_format = 2 ∷ DW_LNCT_path ∷ DW_FORM_string ∷ DW_LNCT_directory_index ∷ DW_FORM_udata ∷ []
