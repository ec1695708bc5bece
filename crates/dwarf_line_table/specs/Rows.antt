-- The rows of a line number table for an address (DWARF 5, section 6.2).
use Rattle.std.specs.Prelude.{◌≡◌, ℕ, ◌<◌, ◌≤◌, List, ◌∷◌, ◌++◌, All, Contains, Some, slice_get}
use Rattle.dwarf_line.specs.declared.table.FileEntry.{FileEntry}
use Rattle.dwarf_line.specs.declared.table.Row.{Row}
use Rattle.dwarf_line.specs.declared.table.Sequence.{Sequence}
use Rattle.dwarf_line.specs.declared.table.LineTable.{LineTable}
use Rattle.dwarf_line_table.specs.declared.file.SourceFile.{SourceFile}
use Rattle.dwarf_line_table.specs.SourcePosition.{SourceLine}

-- the row for an address: the last one whose address isn't above it
pub record IsLastAt (rows : List Row) (address : ℕ) (row : Row) : Type 0 where
  pub before : List Row
  pub after : List Row
  pub stands : rows ≡ before ++ row ∷ after
  pub reached : row.address ≤ address
  pub passed : All (λ r. address < r.address) after

-- a row of the table for an address: the one of a sequence whose end is above the address
pub record IsRowAt (table : LineTable) (address : ℕ) (row : Row) : Type 0 where
  pub sequence : Sequence
  pub among : Contains table.sequences sequence
  pub last : IsLastAt sequence.rows address row
  pub inside : address < sequence.end

-- a number from 1 on refers to a file: its entry has the file's name, and the index of the file's directory (section 6.2.4)
pub record NamesFile (table : LineTable) (number : ℕ) (file : SourceFile) : Type 0 where
  pub from_one : 0 < number
  pub entry : FileEntry
  pub stands : slice_get table.files number ≡ Some entry
  pub name : entry.name ≡ file.name
  pub dir : slice_get table.dirs entry.dir ≡ Some file.dir

-- the row has this source position
pub record Says (table : LineTable) (row : Row) (place : SourceLine) : Type 0 where
  pub file : NamesFile table row.file place.file
  pub line : row.line ≡ place.line
  pub column : row.column ≡ place.column

-- the table has a source position for an address: it has a row for the address, and each such row has the position
pub record GivesLine (table : LineTable) (address : ℕ) (place : SourceLine) : Type 0 where
  pub row : Row
  pub at : IsRowAt table address row
  pub each : (r : Row) → IsRowAt table address r → Says table r place
