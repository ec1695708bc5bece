-- The unique encoding of a line number table: the section .debug_line (DWARF 5 sections 6.2.4 and 6.2.5).
use Rattle.std.specs.Prelude.{ℕ, pos, ◌+◌, ◌-◌, ◌-ℤ◌, List, [], ◌∷◌, ◌++◌, length, ◌==◌, if◌then◌else◌}
use Rattle.std.specs.List.{flat_map}
use Rattle.std.specs.Int.{w16, w32, w64, to_le_bytes}
use Rattle.dwarf_base.specs.Leb.{uleb_of, sleb_of}
use Rattle.dwarf_base.specs.Standard.{VERSION, ADDRESS_SIZE, SEGMENT_SELECTOR_SIZE}
use Rattle.dwarf_line.specs.declared.table.FileEntry.{FileEntry}
use Rattle.dwarf_line.specs.declared.table.Row.{Row}
use Rattle.dwarf_line.specs.declared.table.Sequence.{Sequence}
use Rattle.dwarf_line.specs.declared.table.LineTable.{LineTable}
use Rattle.dwarf_line.specs.Standard.{DW_LNS_copy, DW_LNS_advance_pc, DW_LNS_advance_line, DW_LNS_set_file, DW_LNS_set_column, EXTENDED_OPCODE}
use Rattle.dwarf_line.specs.Standard.{DW_LNE_end_sequence, DW_LNE_set_address}
use Rattle.dwarf_line.specs.Standard.{instruction_fields, directory_format, file_format}

-- a string: its bytes, and a zero byte (section 7.5.5)
abbrev pub text : List ℕ → List ℕ
text name = name ++ 0 ∷ []

-- a file (section 6.2.4): its name and its directory's index
abbrev pub file : FileEntry → List ℕ
file f = text f.name ++ uleb_of f.dir

-- the part of the header that its length counts (section 6.2.4): from minimum_instruction_length to the last file
unfoldable pub tables : LineTable → List ℕ
tables t =
    instruction_fields
    ++ directory_format ++ uleb_of (length t.dirs) ++ flat_map text t.dirs
    ++ file_format ++ uleb_of (length t.files) ++ flat_map file t.files

-- the state machine's registers at a sequence's start (section 6.2.2), with its first address
abbrev pub registers_at : ℕ → Row
registers_at address = record { address = address; file = 1; line = 1; column = 0 }

-- DW_LNE_set_address (section 6.2.5.3): nine bytes follow, the opcode and the address
abbrev pub set_address : ℕ → List ℕ
set_address address = EXTENDED_OPCODE ∷ 9 ∷ DW_LNE_set_address ∷ to_le_bytes w64 address

-- DW_LNE_end_sequence: one byte follows, the opcode
abbrev pub end_sequence : List ℕ
end_sequence = EXTENDED_OPCODE ∷ 1 ∷ DW_LNE_end_sequence ∷ []

-- DW_LNS_set_file: the file's number in ULEB128 (section 6.2.5.2)
abbrev pub set_file : ℕ → List ℕ
set_file n = DW_LNS_set_file ∷ uleb_of n

-- DW_LNS_set_column: the column in ULEB128
abbrev pub set_column : ℕ → List ℕ
set_column n = DW_LNS_set_column ∷ uleb_of n

-- DW_LNS_advance_pc: the advance of the address in ULEB128. Its unit is minimum_instruction_length, one byte
abbrev pub advance_pc : (from to : ℕ) → List ℕ
advance_pc from to = DW_LNS_advance_pc ∷ uleb_of (to - from)

-- DW_LNS_advance_line: the change of the line in SLEB128
abbrev pub advance_line : (from to : ℕ) → List ℕ
advance_line from to = DW_LNS_advance_line ∷ sleb_of (pos to -ℤ pos from)

-- the opcode for a register, only if the register changes
abbrev pub changing : (old new : ℕ) → List ℕ → List ℕ
changing old new bytes = if new == old then [] else bytes

-- a row, with the registers set to the row before: the opcodes for registers that change, and DW_LNS_copy
unfoldable pub row : (before r : Row) → List ℕ
row before r =
    changing before.file r.file (set_file r.file)
    ++ changing before.column r.column (set_column r.column)
    ++ changing before.address r.address (advance_pc before.address r.address)
    ++ changing before.line r.line (advance_line before.line r.line)
    ++ DW_LNS_copy ∷ []

-- rows after the row `before`, the advance to the end, and DW_LNE_end_sequence
abbrev pub rows_to : Row → List Row → ℕ → List ℕ
rows_to before [] end = advance_pc before.address end ++ end_sequence
rows_to before (r ∷ rows) end = row before r ++ rows_to r rows end

-- the first address of a sequence: that of its first row
abbrev pub first_address : List Row → ℕ
first_address [] = 0
first_address (r ∷ rows) = r.address

-- the opcodes of a sequence: DW_LNE_set_address, its rows, the advance to its end, and DW_LNE_end_sequence
abbrev pub sequence : Sequence → List ℕ
sequence s = set_address (first_address s.rows) ++ rows_to (registers_at (first_address s.rows)) s.rows s.end

-- the line number program
abbrev pub program : List Sequence → List ℕ
program sequences = flat_map sequence sequences

-- the part of the header that its length doesn't count (section 6.2.4): the length of what follows it, the version, the sizes of
-- addresses and of segment selectors, and the header's length
abbrev pub header : (length_after header_length : ℕ) → List ℕ
header length_after header_length =
    to_le_bytes w32 length_after ++ to_le_bytes w16 VERSION
    ++ (ADDRESS_SIZE ∷ SEGMENT_SELECTOR_SIZE ∷ []) ++ to_le_bytes w32 header_length

-- the section
unfoldable pub spelling : LineTable → List ℕ
spelling t =
    header (8 + length (tables t) + length (program t.sequences)) (length (tables t))
    ++ tables t ++ program t.sequences
