-- The pieces of `.debug_line`, and the table that it has where code lies at another address.
use Rattle.std.specs.Prelude.{ℕ, ◌+◌, ◌<◌, ◌^◌, List, [], ◌∷◌, ◌++◌, length, map}
use Rattle.std.specs.List.{flat_map}
use Rattle.dwarf_line.specs.declared.table.Row.{Row}
use Rattle.dwarf_line.specs.declared.table.Sequence.{Sequence}
use Rattle.dwarf_line.specs.declared.table.LineTable.{LineTable}
use Rattle.dwarf_line.specs.Standard.{EXTENDED_OPCODE, DW_LNE_set_address}
use Rattle.dwarf_line.specs.Spelling.{header, tables, program, first_address, registers_at, rows_to}
use Rattle.elf_content.specs.declared.piece.Piece.{Piece}
use Rattle.elf_content.specs.declared.piece.Piece.TheVariants.{Fixed}
use Rattle.debug_placement.specs.Fields.{address_field}

-- a sequence: the address of DW_LNE_set_address (DWARF 5 section 6.2.5.3) is one of the code, whose section's symbol has this number
abbrev pub sequence_pieces : (text : ℕ) → Sequence → List Piece
sequence_pieces text s =
    Fixed (EXTENDED_OPCODE ∷ 9 ∷ DW_LNE_set_address ∷ []) ∷ address_field text (first_address s.rows)
    ∷ Fixed (rows_to (registers_at (first_address s.rows)) s.rows s.end) ∷ []

-- the section
abbrev pub line_pieces : (text : ℕ) → LineTable → List Piece
line_pieces text t =
    Fixed (header (8 + length (tables t) + length (program t.sequences)) (length (tables t)) ++ tables t)
    ∷ flat_map (sequence_pieces text) t.sequences

-- ---- code from an address on

abbrev pub moved_row : (base : ℕ) → Row → Row
moved_row base r = record { address = base + r.address; file = r.file; line = r.line; column = r.column }

abbrev pub moved_sequence : (base : ℕ) → Sequence → Sequence
moved_sequence base s = record { rows = map (moved_row base) s.rows; end = base + s.end }

-- the table with each address moved
abbrev pub moved_table : (base : ℕ) → LineTable → LineTable
moved_table base t = record { dirs = t.dirs; files = t.files; sequences = map (moved_sequence base) t.sequences }

-- the end of a moved sequence is an address
abbrev pub EndsBelow : (base : ℕ) → Sequence → Type 0
EndsBelow base s = base + s.end < 2 ^ 64
