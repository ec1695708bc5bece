-- The line number table of a program.
use Rattle.std.specs.Prelude.{ℕ, List, [], ◌∷◌, ◌++◌, map}
use Rattle.std.specs.List.{flat_map}
use Rattle.dwarf_line.specs.declared.table.Row.{Row}
use Rattle.dwarf_line.specs.declared.table.Sequence.{Sequence}
use Rattle.dwarf_line.specs.declared.table.LineTable.{LineTable}
use Rattle.read_metadata.specs.Maps.{Maps}
use Rattle.read_metadata.specs.Metadata.{subprogram_at}
use Rattle.dwarf_line_table.specs.declared.file.SourceFile.{SourceFile}
use Rattle.dwarf_line_table.specs.declared.scope_line.ScopeLine.{ScopeLine}
use Rattle.dwarf_line_table.specs.Files.{first_uses, is_file, dirs_of, entry_in}
use Rattle.dwarf_line_table.specs.Program.{function_end}
use Rattle.prologue_rows.specs.declared.function.LinedFunction.{LinedFunction}
use Rattle.prologue_rows.specs.declared.words.SourceWord.{SourceWord}
use Rattle.prologue_rows.specs.Words.{words_of}
use Rattle.prologue_rows.specs.Lines
use Rattle.prologue_rows.specs.Files.{table_file, number_of}
use Rattle.prologue_rows.specs.Rows.{line_file, row_of, first_and_changes}

-- a function's own source position: its line, in the scope of its subprogram
abbrev pub own_line : Maps → LinedFunction → ScopeLine
own_line meta f = record { line = f.line; column = 0; scope = subprogram_at meta f.function.source.now.name }

-- the source positions for its rows
abbrev pub lines_of : Maps → LinedFunction → List SourceWord
lines_of meta f = Lines.lines_of (own_line meta f) f.function.code.now.base (words_of meta f.function)

-- its rows
abbrev pub rows_of : (files : List SourceFile) → Maps → (unit : SourceFile) → LinedFunction → List Row
rows_of files meta unit f = first_and_changes (map (row_of files meta unit) (lines_of meta f))

-- its sequence
abbrev pub sequence_of : (files : List SourceFile) → Maps → (unit : SourceFile) → LinedFunction → Sequence
sequence_of files meta unit f = record { rows = rows_of files meta unit f; end = function_end f.function }

-- the files of its entries
abbrev pub declared_of : LinedFunction → List SourceFile
declared_of f = f.declared.now

-- the files that it uses: those of its rows, and those of its entries
abbrev pub uses_of : Maps → (unit : SourceFile) → LinedFunction → List SourceFile
uses_of meta unit f = map (line_file meta unit) (lines_of meta f) ++ map table_file (declared_of f)

-- the files of the table in the order of their first use, the unit's first
abbrev pub files_of : Maps → (unit : SourceFile) → List LinedFunction → List SourceFile
files_of meta unit functions = first_uses is_file (table_file unit ∷ []) (flat_map (uses_of meta unit) functions)

-- the table of functions in text order, with a sequence for each
unfoldable pub table_of : Maps → (unit : SourceFile) → List LinedFunction → LineTable
table_of meta unit functions = record {
  dirs = dirs_of (files_of meta unit functions);
  files = map (entry_in (dirs_of (files_of meta unit functions))) (files_of meta unit functions);
  sequences = map (sequence_of (files_of meta unit functions) meta unit) functions;
}

-- the numbers of the files of all entries
abbrev pub numbers_of : Maps → (unit : SourceFile) → List LinedFunction → List ℕ
numbers_of meta unit functions = map (λ d. number_of (files_of meta unit functions) (table_file d)) (flat_map declared_of functions)
