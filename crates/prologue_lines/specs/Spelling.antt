-- The encoding of a line number table in which each sequence is a function's: its first row is at the function's first address, and its second one, if there
-- is one, at the address where the prologue ends (DWARF 5 sections 6.2.2 and 6.2.5). It is dwarf_line's encoding with DW_LNS_set_prologue_end before the
-- second row is appended.
use Rattle.std.specs.Prelude.{ℕ, ◌+◌, List, [], ◌∷◌, ◌++◌, length}
use Rattle.std.specs.List.{flat_map}
use Rattle.dwarf_line.specs.declared.table.Row.{Row}
use Rattle.dwarf_line.specs.declared.table.Sequence.{Sequence}
use Rattle.dwarf_line.specs.declared.table.LineTable.{LineTable}
use Rattle.dwarf_line.specs.Standard.{DW_LNS_copy}
use Rattle.dwarf_line.specs.Spelling.{changing, set_file, set_column, advance_pc, advance_line, set_address, row, rows_to, registers_at, first_address, header, tables}

-- sets the register prologue_end, which DW_LNS_copy clears (sections 6.2.5.2 and 7.22): the next row is at an address where execution should be suspended
-- for a breakpoint at the function's entry
abbrev pub DW_LNS_set_prologue_end : ℕ
DW_LNS_set_prologue_end = 0x0a

-- the opcodes for registers that change from a row to the next one, and what follows them
abbrev pub changes_to : (before r : Row) (behind : List ℕ) → List ℕ
changes_to before r behind =
    changing before.file r.file (set_file r.file)
    ++ changing before.column r.column (set_column r.column)
    ++ changing before.address r.address (advance_pc before.address r.address)
    ++ changing before.line r.line (advance_line before.line r.line)
    ++ behind

-- a row with prologue_end
abbrev pub prologue_row : (before r : Row) → List ℕ
prologue_row before r = changes_to before r (DW_LNS_set_prologue_end ∷ DW_LNS_copy ∷ [])

-- the rows of a sequence after its first one, and its end
abbrev pub rows_behind : (before : Row) → List Row → (end : ℕ) → List ℕ
rows_behind before [] end = rows_to before [] end
rows_behind before (r ∷ rows) end = prologue_row before r ++ rows_to r rows end

-- the rows of a sequence, and its end
abbrev pub function_rows : List Row → (end : ℕ) → List ℕ
function_rows [] end = rows_to (registers_at 0) [] end
function_rows (r ∷ rows) end = row (registers_at r.address) r ++ rows_behind r rows end

-- the opcodes of a sequence
abbrev pub sequence : Sequence → List ℕ
sequence s = set_address (first_address s.rows) ++ function_rows s.rows s.end

-- the line number program
abbrev pub program : List Sequence → List ℕ
program sequences = flat_map sequence sequences

-- the section
unfoldable pub spelling : LineTable → List ℕ
spelling t =
    header (8 + length (tables t) + length (program t.sequences)) (length (tables t))
    ++ tables t ++ program t.sequences
