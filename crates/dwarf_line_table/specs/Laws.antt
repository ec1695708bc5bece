-- Laws of a program's line number table.
use Rattle.std.specs.Prelude.{◌≡◌, ℕ, ◌+◌, ◌<◌, ◌≤◌, List, [], ◌∷◌, Option, Contains}
use Rattle.mir_func.specs.Positions.{position_of}
use Rattle.emit_code.specs.declared.code.EncodedInstruction.{EncodedInstruction}
use Rattle.emit_code.specs.Laid.{StandFrom}
use Rattle.dwarf_line.specs.declared.table.Row.{Row}
use Rattle.read_metadata.specs.Maps.{Maps}
use Rattle.dwarf_line_table.specs.declared.source_and_code.SourceAndCode.{SourceAndCode}
use Rattle.dwarf_line_table.specs.SourcePosition.{no_line, scope_line, loc_of}
use Rattle.dwarf_line_table.specs.Program.{program_file, function_end, table_with}
use Rattle.dwarf_line_table.specs.Table.{entry_line}
use Rattle.dwarf_line_table.specs.Rows.{IsRowAt, GivesLine}

-- functions are contiguous from an address on, and the entries of each are contiguous from its first address to its end
abbrev pub LieFrom : (address : ℕ) → List SourceAndCode → Type 0
LieFrom a [] = Unit {0}
LieFrom a (f ∷ fs) = (f.code.now.base ≡ a) × StandFrom a f.code.now.entries (function_end f) × LieFrom (function_end f) fs

-- this entry of one of the functions has a byte at the address
pub record HasCodeAt (functions : List SourceAndCode) (address : ℕ) (f : SourceAndCode) (e : EncodedInstruction) : Type 0 where
  pub function : Contains functions f
  pub entry : Contains f.code.now.entries e
  pub from : e.address ≤ address
  pub below : address < e.address + e.size

-- At each address of code the table, with whatever files of further scopes, has the source position of the debug location of the first code at or after the
-- origin of the code there, in the origin's block of the function as it was read.
abbrev pub TablesGiveLines : Type 0
TablesGiveLines = (meta : Maps) (functions : List SourceAndCode) (further : List (Option ℕ)) (base : ℕ) → LieFrom base functions →
    (address : ℕ) (f : SourceAndCode) (e : EncodedInstruction) → HasCodeAt functions address f e →
    GivesLine (table_with meta functions further) address (entry_line meta (program_file meta functions) f.source.now.blocks e)

-- No row is that of an address without code.
abbrev pub NothingOutside : Type 0
NothingOutside = (meta : Maps) (functions : List SourceAndCode) (further : List (Option ℕ)) (base : ℕ) → LieFrom base functions →
    (address : ℕ) → ((f : SourceAndCode) (e : EncodedInstruction) → HasCodeAt functions address f e → ⊥) →
    (row : Row) → IsRowAt (table_with meta functions further) address row → ⊥

-- a row without a line: line 0 and column 0 of file 1
pub record IsNoLine (row : Row) : Type 0 where
  pub file : row.file ≡ 1
  pub line : row.line ≡ 0
  pub column : row.column ≡ 0

-- If the first code at or after the origin has no debug location, or one that isn't readable, each row for the address has no
-- line.
abbrev pub NoneIsLineZero : Type 0
NoneIsLineZero = (meta : Maps) (functions : List SourceAndCode) (further : List (Option ℕ)) (base : ℕ) → LieFrom base functions →
    (address : ℕ) (f : SourceAndCode) (e : EncodedInstruction) → HasCodeAt functions address f e →
    scope_line meta (loc_of f.source.now.blocks (position_of e.origin)) ≡ no_line →
    (row : Row) → IsRowAt (table_with meta functions further) address row → IsNoLine row

-- If the source position of code is in the unit's file, each row for the address has file 1. So it has if the code's own file
-- isn't readable.
abbrev pub UnitIsFileOne : Type 0
UnitIsFileOne = (meta : Maps) (functions : List SourceAndCode) (further : List (Option ℕ)) (base : ℕ) → LieFrom base functions →
    (address : ℕ) (f : SourceAndCode) (e : EncodedInstruction) → HasCodeAt functions address f e →
    (entry_line meta (program_file meta functions) f.source.now.blocks e).file ≡ program_file meta functions →
    (row : Row) → IsRowAt (table_with meta functions further) address row → row.file ≡ 1
