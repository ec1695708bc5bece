-- The pieces of the section: the bytes that stay, and the addresses of code.
use Rattle.std.specs.Prelude.{ℕ, ◌+◌, List, [], ◌∷◌, ◌++◌, length}
use Rattle.std.specs.List.{flat_map}
use Rattle.dwarf_line.specs.declared.table.Sequence.{Sequence}
use Rattle.dwarf_line.specs.declared.table.LineTable.{LineTable}
use Rattle.dwarf_line.specs.Standard.{EXTENDED_OPCODE, DW_LNE_set_address}
use Rattle.dwarf_line.specs.Spelling.{header, tables, first_address}
use Rattle.elf_content.specs.declared.piece.Piece.{Piece}
use Rattle.elf_content.specs.declared.piece.Piece.TheVariants.{Fixed}
use Rattle.debug_placement.specs.Fields.{address_field}
use Rattle.prologue_lines.specs.Spelling.{function_rows, program}

-- a sequence: the address of DW_LNE_set_address (DWARF 5 section 6.2.5.3) is one of the code, whose section's symbol has this number
abbrev pub sequence_pieces : (text : ℕ) → Sequence → List Piece
sequence_pieces text s =
    Fixed (EXTENDED_OPCODE ∷ 9 ∷ DW_LNE_set_address ∷ []) ∷ address_field text (first_address s.rows) ∷ Fixed (function_rows s.rows s.end) ∷ []

-- the part before the line number program
abbrev pub header_of : LineTable → List ℕ
header_of t = header (8 + length (tables t) + length (program t.sequences)) (length (tables t)) ++ tables t

-- the section
abbrev pub line_pieces : (text : ℕ) → LineTable → List Piece
line_pieces text t = Fixed (header_of t) ∷ flat_map (sequence_pieces text) t.sequences
