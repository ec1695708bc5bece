-- The unique encoding of a table of call frame information: the section .debug_frame (DWARF 5 sections 6.4.1, 6.4.2 and 7.24).
use Rattle.std.specs.Prelude.{ℕ, suc, ◌+◌, ◌-◌, ◌/◌, ◌%◌, List, [], ◌∷◌, ◌++◌, length, Option, Some, None, replicate, nat_lt, if◌then◌else◌}
use Rattle.std.specs.List.{flat_map}
use Rattle.std.specs.Int.{w32, w64, to_le_bytes}
use Rattle.dwarf_base.specs.Leb.{uleb_of}
use Rattle.dwarf_base.specs.Standard.{ADDRESS_SIZE, SEGMENT_SELECTOR_SIZE}
use Rattle.dwarf_line.specs.Spelling.{changing}
use Rattle.dwarf_frame.specs.declared.table.Row.{Row}
use Rattle.dwarf_frame.specs.declared.table.FrameDescription.{FrameDescription}
use Rattle.dwarf_frame.specs.Table.{is_saved, initial}
use Rattle.dwarf_frame.specs.Standard.{CIE_ID, VERSION, CODE_ALIGNMENT_FACTOR, DATA_ALIGNMENT_FACTOR, RETURN_ADDRESS_REGISTER, STACK_POINTER}
use Rattle.dwarf_frame.specs.Standard.{DW_CFA_advance_loc, DW_CFA_advance_loc4, DW_CFA_offset, DW_CFA_restore, DW_CFA_nop, DW_CFA_undefined, DW_CFA_def_cfa}
use Rattle.dwarf_frame.specs.Standard.{DW_CFA_def_cfa_offset}

-- an advance by a number of instructions: in the opcode's low six bits if it fits, else in four bytes (section 6.4.2.1)
abbrev pub advance : ℕ → List ℕ
advance words = if nat_lt words 64 then (DW_CFA_advance_loc + words) ∷ [] else DW_CFA_advance_loc4 ∷ to_le_bytes w32 words

-- DW_CFA_def_cfa_offset: the offset in ULEB128 (section 6.4.2.2)
abbrev pub def_cfa_offset : ℕ → List ℕ
def_cfa_offset offset = DW_CFA_def_cfa_offset ∷ uleb_of offset

-- DW_CFA_offset for each saved register, from this one on: the distance below the CFA in doublewords (section 6.4.2.3)
abbrev pub saves : (register : ℕ) → List (Option ℕ) → List ℕ
saves register [] = []
saves register (None ∷ rest) = saves (suc register) rest
saves register (Some distance ∷ rest) = (DW_CFA_offset + register) ∷ uleb_of (distance / 8) ++ saves (suc register) rest

-- DW_CFA_restore for each saved register, from this one on (section 6.4.2.3)
abbrev pub restores : (register : ℕ) → List (Option ℕ) → List ℕ
restores register [] = []
restores register (None ∷ rest) = restores (suc register) rest
restores register (Some distance ∷ rest) = (DW_CFA_restore + register) ∷ restores (suc register) rest

-- registers that are saved where none was, or are saved no longer; if some were and are, nothing changes
abbrev pub registers : (before saved : List (Option ℕ)) → List ℕ
registers before saved = if is_saved before then (if is_saved saved then [] else restores 0 before) else saves 0 saved

-- a row after another: the advance, and the instructions for what changes
unfoldable pub row : (before r : Row) → List ℕ
row before r =
    advance ((r.address - before.address) / CODE_ALIGNMENT_FACTOR)
    ++ changing before.rules.cfa_offset r.rules.cfa_offset (def_cfa_offset r.rules.cfa_offset)
    ++ registers before.rules.saved r.rules.saved

-- the rows after a row
abbrev pub rows_after : Row → List Row → List ℕ
rows_after before [] = []
rows_after before (r ∷ rows) = row before r ++ rows_after r rows

-- bytes with DW_CFA_nop up to a multiple of eight: the fields before them are a multiple of eight bytes
abbrev pub padded : List ℕ → List ℕ
padded bytes = bytes ++ replicate ((8 - length bytes % 8) % 8) DW_CFA_nop

-- DW_CFA_undefined for each register whose value a function may lose: in ULEB128 it is one byte (section 6.4.2.3)
abbrev pub undefines : (undefined : List ℕ) → List ℕ
undefines [] = []
undefines (register ∷ undefined) = DW_CFA_undefined ∷ register ∷ undefines undefined

-- the fields of the common information entry after the CIE_id (section 6.4.1), from the version to the first of the initial
-- instructions: the CFA is x2
abbrev pub common_front : List ℕ
common_front =
    VERSION ∷ 0 ∷ ADDRESS_SIZE ∷ SEGMENT_SELECTOR_SIZE ∷ CODE_ALIGNMENT_FACTOR ∷ DATA_ALIGNMENT_FACTOR ∷ RETURN_ADDRESS_REGISTER
    ∷ DW_CFA_def_cfa ∷ STACK_POINTER ∷ 0 ∷ []

-- and with the other initial instructions: registers whose values a function may lose are undefined
abbrev pub common_fields : (undefined : List ℕ) → List ℕ
common_fields undefined = padded (common_front ++ undefines undefined)

-- the common information entry: the length of what follows it, the CIE_id, and the other fields
abbrev pub common_entry : (undefined : List ℕ) → List ℕ
common_entry undefined = to_le_bytes w32 (4 + length (common_fields undefined)) ++ to_le_bytes w32 CIE_ID ++ common_fields undefined

-- the call frame instructions of a function
abbrev pub instructions : FrameDescription → List ℕ
instructions f = padded (rows_after (initial f.start) f.rows)

-- the fields of a frame description entry before its call frame instructions, which have this many bytes (section 6.4.1): the length of
-- what follows it, the offset of its CIE, and the address range
abbrev pub fields : (opcodes start size : ℕ) → List ℕ
fields opcodes start size = to_le_bytes w32 (20 + opcodes) ++ to_le_bytes w32 0 ++ to_le_bytes w64 start ++ to_le_bytes w64 size

-- the frame description entry of a function
abbrev pub description : FrameDescription → List ℕ
description f = fields (length (instructions f)) f.start f.size ++ instructions f

-- the section
unfoldable pub spelling : (undefined : List ℕ) → List FrameDescription → List ℕ
spelling undefined functions = common_entry undefined ++ flat_map description functions
