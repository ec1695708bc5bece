-- DWARF 5's numbers for call frame information, under their names in the standard if they have one, and RISC-V's values of them.
use Rattle.std.specs.Prelude.{ℕ}

-- the CIE_id of a common information entry: no frame description entry has it as the offset of its CIE (sections 6.4.1 and 7.24)
abbrev pub CIE_ID : ℕ
CIE_ID = 0xffffffff

-- the version of call frame information (sections 6.4.1 and 7.24)
abbrev pub VERSION : ℕ
VERSION = 4

-- the unit of address advances (section 6.4.1): the bytes of an instruction
abbrev pub CODE_ALIGNMENT_FACTOR : ℕ
CODE_ALIGNMENT_FACTOR = 4

-- the unit of offsets from the CFA (section 6.4.1): -8, the one byte of which in SLEB128 is 0x78
abbrev pub DATA_ALIGNMENT_FACTOR : ℕ
DATA_ALIGNMENT_FACTOR = 0x78

-- the register with the return address (section 6.4.1): x1. The DWARF number of xN is N (RISC-V ELF psABI, "DWARF Register Numbers")
abbrev pub RETURN_ADDRESS_REGISTER : ℕ
RETURN_ADDRESS_REGISTER = 1

-- the register that the CFA is an offset from: x2
abbrev pub STACK_POINTER : ℕ
STACK_POINTER = 2

-- the call frame instructions that are written (sections 6.4.2 and 7.24). These three have their operand in the low six bits: a
-- number of code units, or a register
abbrev pub DW_CFA_advance_loc : ℕ
DW_CFA_advance_loc = 0x40

-- the register's value is at an offset from the CFA, a ULEB128 number of data units
abbrev pub DW_CFA_offset : ℕ
DW_CFA_offset = 0x80

-- the register has the rule of the CIE's initial instructions again
abbrev pub DW_CFA_restore : ℕ
DW_CFA_restore = 0xc0

-- no effect, for padding
abbrev pub DW_CFA_nop : ℕ
DW_CFA_nop = 0x00

-- an advance by a number of code units in four bytes
abbrev pub DW_CFA_advance_loc4 : ℕ
DW_CFA_advance_loc4 = 0x04

-- the register's value can't be found
abbrev pub DW_CFA_undefined : ℕ
DW_CFA_undefined = 0x07

-- the CFA is a register plus an offset, both in ULEB128
abbrev pub DW_CFA_def_cfa : ℕ
DW_CFA_def_cfa = 0x0c

-- the CFA is the same register plus another offset, in ULEB128
abbrev pub DW_CFA_def_cfa_offset : ℕ
DW_CFA_def_cfa_offset = 0x0e
