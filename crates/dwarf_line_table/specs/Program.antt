-- The line number table of a program.
use Rattle.std.specs.Prelude.{ℕ, ◌+◌, ◌*◌, List, [], ◌∷◌, map, length, Option, None}
use Rattle.std.specs.List.{flat_map}
use Rattle.dwarf_line.specs.declared.table.Row.{Row}
use Rattle.dwarf_line.specs.declared.table.Sequence.{Sequence}
use Rattle.dwarf_line.specs.declared.table.LineTable.{LineTable}
use Rattle.read_metadata.specs.Maps.{Maps}
use Rattle.dwarf_line_table.specs.declared.source_and_code.SourceAndCode.{SourceAndCode}
use Rattle.dwarf_line_table.specs.declared.file.SourceFile.{SourceFile}
use Rattle.dwarf_line_table.specs.Files.{unit_file, first_uses, is_file, files_of, number_in, dirs_of, entries_of}
use Rattle.dwarf_line_table.specs.SourcePosition.{scope_file}
use Rattle.dwarf_line_table.specs.Table.{changes, uses_in, rows_in}

-- the most functions of a program's table
abbrev pub MAX_FUNCTIONS : ℕ
MAX_FUNCTIONS = 4096

-- the file of a program's unit
abbrev pub program_file : Maps → List SourceAndCode → SourceFile
program_file meta functions = unit_file meta (map (λ f. f.source.now.name) functions)

-- the files of a function's entries, in the entries' order
abbrev pub function_uses : Maps → (unit : SourceFile) → SourceAndCode → List SourceFile
function_uses meta unit f = uses_in meta unit f.source.now.blocks f.code.now.entries

-- the rows of a function: one at its first entry, and one at each entry whose file, line or column differs from that of the entry
-- before
abbrev pub rows_of : List SourceFile → Maps → (unit : SourceFile) → SourceAndCode → List Row
rows_of files meta unit f = changes None (rows_in files meta unit f.source.now.blocks f.code.now.entries)

-- the address after a function's words
abbrev pub function_end : SourceAndCode → ℕ
function_end f = f.code.now.base + 4 * length f.code.now.words

-- the sequence of these rows, if there is one
abbrev pub sequence_if : List Row → (end : ℕ) → List Sequence
sequence_if [] end = []
sequence_if (r ∷ rows) end = record { rows = r ∷ rows; end = end } ∷ []

-- the sequence of a function, if it has code
abbrev pub sequences_of : List SourceFile → Maps → (unit : SourceFile) → SourceAndCode → List Sequence
sequences_of files meta unit f = sequence_if (rows_of files meta unit f) (function_end f)

-- the files of a program's table, from number 1 on
abbrev pub program_files : Maps → List SourceAndCode → List SourceFile
program_files meta functions = files_of (program_file meta functions) (flat_map (function_uses meta (program_file meta functions)) functions)

-- the files of a program's table with those of further scopes behind them
abbrev pub files_with : Maps → List SourceAndCode → (further : List (Option ℕ)) → List SourceFile
files_with meta functions further = first_uses is_file (program_files meta functions) (map (scope_file meta (program_file meta functions)) further)

-- the table of a program, with the files of further scopes
unfoldable pub table_with : Maps → List SourceAndCode → (further : List (Option ℕ)) → LineTable
table_with meta functions further = record {
  dirs = dirs_of (files_with meta functions further);
  files = entries_of (files_with meta functions further);
  sequences = flat_map (sequences_of (files_with meta functions further) meta (program_file meta functions)) functions;
}

-- the number of a scope's file in that table
abbrev pub scope_number : Maps → List SourceAndCode → (further : List (Option ℕ)) → Option ℕ → ℕ
scope_number meta functions further scope = number_in (files_with meta functions further) (scope_file meta (program_file meta functions) scope)

-- the table of a program
unfoldable pub table_of : Maps → List SourceAndCode → LineTable
table_of meta functions = record {
  dirs = dirs_of (program_files meta functions);
  files = entries_of (program_files meta functions);
  sequences = flat_map (sequences_of (program_files meta functions) meta (program_file meta functions)) functions;
}
