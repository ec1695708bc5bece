-- The rows of source positions.
use Rattle.std.specs.Prelude.{List, [], ◌∷◌, None}
use Rattle.dwarf_line.specs.declared.table.Row.{Row}
use Rattle.read_metadata.specs.Maps.{Maps}
use Rattle.dwarf_line_table.specs.declared.file.SourceFile.{SourceFile}
use Rattle.dwarf_line_table.specs.SourcePosition.{scope_file}
use Rattle.dwarf_line_table.specs.Table.{changes}
use Rattle.prologue_rows.specs.declared.words.SourceWord.{SourceWord}
use Rattle.prologue_rows.specs.Files.{table_file, number_of}

-- the file of a source position
abbrev pub line_file : Maps → (unit : SourceFile) → SourceWord → SourceFile
line_file meta unit w = table_file (scope_file meta unit w.scope)

-- its row
abbrev pub row_of : (files : List SourceFile) → Maps → (unit : SourceFile) → SourceWord → Row
row_of files meta unit w = record { address = w.address; file = number_of files (line_file meta unit w); line = w.line; column = w.column }

-- the first row, then the first of the others, and those that differ from the one before in file, line or column
abbrev pub first_and_changes : List Row → List Row
first_and_changes [] = []
first_and_changes (r ∷ rows) = r ∷ changes None rows
