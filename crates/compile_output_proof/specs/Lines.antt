-- The line number table of an output: the source line of each listed line.
use Rattle.std.specs.Prelude.{◌≡◌, ℕ, ◌<◌, ◌≤◌, List, Some, map, length, slice_get, Contains}
use Rattle.listing_text.specs.declared.output.Line.{Line}
use Rattle.listing_text.specs.declared.output.Line.TheVariants.{Item, Skip}
use Rattle.listing_text.specs.declared.output.ListedFunction.{ListedFunction}
use Rattle.listing_text.specs.declared.output.Output.{Output}
use Rattle.dwarf_line.specs.declared.table.LineTable.{LineTable}
use Rattle.dwarf_line.specs.declared.table.Row.{Row}
use Rattle.dwarf_line.specs.Spelling.{spelling}
use Rattle.dwarf_line_table.specs.Laws.{IsNoLine}
use Rattle.dwarf_line_table.specs.Rows.{IsRowAt, GivesLine}
use Rattle.mir_func.specs.declared.position.Origin.{Origin}
use Rattle.mir_func.specs.Positions.{position_of}
use Rattle.read_program.specs.declared.closing.Parsed.{Parsed}
use Rattle.read_program.specs.declared.program.Program.{Program}
use Rattle.compile_program.specs.compile_theorem.Compiled.{IsCompiledProgram}
use Rattle.compile_program.specs.compile_theorem.Source.{PassedFunction}
use Rattle.compile_program.specs.Program.{ArePassed, HasSections, names_of}
use Rattle.compile_program.specs.listing_meaning.Program.{lines_of, address_of, past_line}
use Rattle.dwarf_line_table.specs.declared.file.SourceFile.{SourceFile}
use Rattle.dwarf_line_table.specs.Files.{unit_file}
use Rattle.dwarf_line_table.specs.SourcePosition.{no_line, scope_line, loc_of, line_of}

-- the origin of a line
abbrev pub origin_of : Line → Origin
origin_of (Item l) = l.item.origin
origin_of (Skip s) = s.origin

-- the line of the function has a byte at the address
pub record HasByte (f : ListedFunction) (address : ℕ) (line : Line) : Type 0 where
  pub stands : Contains (lines_of f) line
  pub first : ℕ
  pub begins : address_of line ≡ Some first
  pub from : first ≤ address
  pub within : address < past_line first line

-- the file of the program's compile unit
abbrev pub file_of : Program → SourceFile
file_of p = unit_file p.meta (map (λ (f : Parsed). f.func.name) p.functions)

-- For the address of each byte of a listed function, the table has the line, column and file of the debug location of the first code at or after the
-- byte's origin, in the origin's block of the function as it was read. If there is none, or it isn't readable, the row has line 0, column 0 and file
-- 1.
pub record TellsLinesOf (p : Program) (table : LineTable) (source : Parsed) (f : ListedFunction) : Type 0 where
  pub gives : (address : ℕ) (line : Line) → HasByte f address line →
      GivesLine table address (line_of p.meta (file_of p) source.func.blocks (origin_of line))
  pub none : (address : ℕ) (line : Line) → HasByte f address line → scope_line p.meta (loc_of source.func.blocks (position_of (origin_of line))) ≡ no_line →
      (row : Row) → IsRowAt table address row → IsNoLine row

-- `.debug_line` encodes a table that has the lines of each function of the program and its listed function. The table has no row for an address from
-- the end of `.text` on.
pub record TellsLines (p : Program) (o : Output) : Type 0 where
  pub table : LineTable
  pub spelled : o.rows ≡ spelling table
  pub each : (n : ℕ) (source : Parsed) (f : ListedFunction) → slice_get p.functions n ≡ Some source → slice_get o.functions n ≡ Some f →
      TellsLinesOf p table source f
  pub beyond : (address : ℕ) → length o.text ≤ address → (row : Row) → IsRowAt table address row → ⊥

-- The output that is compiled of passed functions of a program that was read, with its sections, has such a table.
abbrev pub OutputsTellLines : Type 0
OutputsTellLines = (p : Program) (functions : List PassedFunction) (o : Output) → ArePassed p.meta p.functions functions →
    IsCompiledProgram (names_of p.meta) functions o → HasSections p.meta functions o → TellsLines p o
