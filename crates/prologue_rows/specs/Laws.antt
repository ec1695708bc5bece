-- Laws of a function's rows.
use Rattle.std.specs.Prelude.{◌≡◌, ℕ, List, ◌∷◌, map}
use Rattle.emit_code.specs.Laid.{StandFrom}
use Rattle.dwarf_line.specs.declared.table.Row.{Row}
use Rattle.read_metadata.specs.Maps.{Maps}
use Rattle.dwarf_line_table.specs.declared.file.SourceFile.{SourceFile}
use Rattle.dwarf_line_table.specs.Program.{function_end}
use Rattle.dwarf_line_table.specs.Rows.{IsLastAt}
use Rattle.prologue_rows.specs.declared.function.LinedFunction.{LinedFunction}
use Rattle.prologue_rows.specs.declared.words.SourceWord.{SourceWord}
use Rattle.prologue_rows.specs.Words.{words_of}
use Rattle.prologue_rows.specs.Lines.{body_of}
use Rattle.prologue_rows.specs.Rows.{row_of}
use Rattle.prologue_rows.specs.Table.{lines_of, rows_of}

-- two rows have the same file, line and column
pub record HaveOnePlace (r s : Row) : Type 0 where
  pub file : r.file ≡ s.file
  pub line : r.line ≡ s.line
  pub column : r.column ≡ s.column

-- the rows have a row for an address, the last one that isn't above it, and it has the place of a given one
pub record GivePlace (rows : List Row) (address : ℕ) (place : Row) : Type 0 where
  pub row : Row
  pub at : IsLastAt rows address row
  pub each : (r : Row) → IsLastAt rows address r → HaveOnePlace r place

-- The rows of a function give each address the place that a row for each of its source positions would give it.
abbrev pub RowsGivePlaces : Type 0
RowsGivePlaces = (files : List SourceFile) (meta : Maps) (unit : SourceFile) (f : LinedFunction) →
    StandFrom f.function.code.now.base f.function.code.now.entries (function_end f.function) →
    (address : ℕ) (row : Row) → IsLastAt (map (row_of files meta unit) (lines_of meta f)) address row → GivePlace (rows_of files meta unit f) address row

-- the first two rows of a function with a word behind its prologue
pub record BeginsAt (rows : List Row) (start own : ℕ) (word : SourceWord) : Type 0 where
  pub first : Row
  pub second : Row
  pub rest : List Row
  pub stand : rows ≡ first ∷ second ∷ rest
  -- the first one is at the function's first address, with the function's own line
  pub base : first.address ≡ start
  pub line : first.line ≡ own
  pub column : first.column ≡ 0
  -- the second one is at the first word behind the prologue, and has no line only if the function has none
  pub behind : second.address ≡ word.address
  pub lined : second.line ≡ 0 → own ≡ 0

-- The first row of a function is at its first address, and the second one at its first word behind the prologue.
abbrev pub RowsBeginAtPrologues : Type 0
RowsBeginAtPrologues = (files : List SourceFile) (meta : Maps) (unit : SourceFile) (f : LinedFunction) (behind : SourceWord) (more : List SourceWord) →
    body_of (words_of meta f.function) ≡ behind ∷ more →
    BeginsAt (rows_of files meta unit f) f.function.code.now.base f.line behind
