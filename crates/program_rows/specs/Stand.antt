-- What the rows of a program's table say of its functions.
use Rattle.std.specs.Prelude.{◌≡◌, ℕ, List, ◌∷◌, map, All}
use Rattle.std.specs.List.{AllZip}
use Rattle.dwarf_line.specs.declared.table.Row.{Row}
use Rattle.dwarf_line.specs.declared.table.Sequence.{Sequence}
use Rattle.dwarf_line.specs.declared.table.LineTable.{LineTable}
use Rattle.emit_code.specs.Laid.{StandFrom}
use Rattle.read_metadata.specs.Maps.{Maps}
use Rattle.read_metadata.specs.Metadata.{subprogram_at}
use Rattle.read_debug_nodes.specs.Maps.{DebugMaps}
use Rattle.dwarf_line_table.specs.declared.file.SourceFile.{SourceFile}
use Rattle.dwarf_line_table.specs.declared.source_and_code.SourceAndCode.{SourceAndCode}
use Rattle.dwarf_line_table.specs.Files.{dirs_of, entry_in}
use Rattle.dwarf_line_table.specs.Program.{function_end, program_file}
use Rattle.dwarf_line_table.specs.Rows.{IsLastAt}
use Rattle.prologue_rows.specs.declared.words.SourceWord.{SourceWord}
use Rattle.prologue_rows.specs.Words.{words_of}
use Rattle.prologue_rows.specs.Lines.{body_of, lines_of}
use Rattle.prologue_rows.specs.Rows.{row_of}
use Rattle.prologue_rows.specs.Laws.{GivePlace, BeginsAt}
use Rattle.program_rows.specs.Program.{body_line, IsTableOf}

-- a function's source positions: at its first address the line of its body, and then those of its words behind the prologue, of which the first ones without a
-- line have the body's
abbrev pub lines_for : DebugMaps → Maps → SourceAndCode → List SourceWord
lines_for debug meta f =
    lines_of (record { line = body_line debug meta f; column = 0; scope = subprogram_at meta f.source.now.name }) f.code.now.base (words_of meta f)

-- The sequence is the function's: its rows give each address the place of the source position there. The first row is at the function's first address, with the
-- line of its body, and the second one, which alone is marked as the end of the prologue, at the first word behind the prologue: it has no line only if the body
-- has none.
pub record HasRowsOf (debug : DebugMaps) (meta : Maps) (unit : SourceFile) (files : List SourceFile) (f : SourceAndCode) (s : Sequence) : Type 0 where
  pub places : (address : ℕ) (row : Row) → IsLastAt (map (row_of files meta unit) (lines_for debug meta f)) address row → GivePlace s.rows address row
  pub begins : (behind : SourceWord) (more : List SourceWord) → body_of (words_of meta f) ≡ behind ∷ more →
      BeginsAt s.rows f.code.now.base (body_line debug meta f) behind
  pub ends : s.end ≡ function_end f

-- each function has a sequence, whose rows name the table's files
pub record RowsStand (debug : DebugMaps) (meta : Maps) (functions : List SourceAndCode) (t : LineTable) : Type 0 where
  pub named : List SourceFile
  pub dirs : t.dirs ≡ dirs_of named
  pub files : t.files ≡ map (entry_in (dirs_of named)) named
  pub each : AllZip (HasRowsOf debug meta (program_file meta functions) named) functions t.sequences

-- the words of a function lie one after the other
abbrev pub IsInOrder : SourceAndCode → Type 0
IsInOrder f = StandFrom f.code.now.base f.code.now.entries (function_end f)

-- So it is of the table of functions whose words lie one after the other.
abbrev pub ProgramRowsStand : Type 0
ProgramRowsStand = (debug : DebugMaps) (meta : Maps) (functions : List SourceAndCode) (t : LineTable) → IsTableOf debug meta functions t →
    All IsInOrder functions → RowsStand debug meta functions t
