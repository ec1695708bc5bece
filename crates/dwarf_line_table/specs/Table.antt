-- The rows of a program's line number table.
use Rattle.std.specs.Prelude.{ℕ, ◌&&◌, Bool, false, cond, List, [], ◌∷◌, map, Option, Some, None, nat_eq}
use Rattle.dwarf_line.specs.declared.table.Row.{Row}
use Rattle.read_metadata.specs.Maps.{Maps}
use Rattle.dwarf_line_table.specs.declared.file.SourceFile.{SourceFile}
use Rattle.dwarf_line_table.specs.Files.{number_in}
use Rattle.dwarf_line_table.specs.SourcePosition.{SourceLine, line_of}
use Rattle.mir_func.specs.declared.block.Block.{Block}
use Rattle.emit_code.specs.declared.code.EncodedInstruction.{EncodedInstruction}

-- the row of a source position at an address
abbrev pub row_of_line : List SourceFile → ℕ → SourceLine → Row
row_of_line files address l = record { address = address; file = number_in files l.file; line = l.line; column = l.column }

-- two rows have the same source position
abbrev pub is_place : Row → Row → Bool
is_place r s = nat_eq r.file s.file && (nat_eq r.line s.line && nat_eq r.column s.column)

-- a row has the source position of the row before it, if there is one
abbrev pub is_place_before : Option Row → Row → Bool
is_place_before None r = false
is_place_before (Some before) r = is_place before r

-- the rows at which the source position changes, including the first row if there is none before
abbrev pub changes : (before : Option Row) → List Row → List Row
changes before [] = []
changes before (r ∷ rows) = cond (is_place_before before r) (changes before rows) (r ∷ changes (Some r) rows)

-- the source position of an entry: that of its origin, in the blocks of the function as it was read
abbrev pub entry_line : Maps → (unit : SourceFile) → List Block → EncodedInstruction → SourceLine
entry_line meta unit blocks e = line_of meta unit blocks e.origin

-- the files of the entries, in their order
abbrev pub uses_in : Maps → (unit : SourceFile) → List Block → List EncodedInstruction → List SourceFile
uses_in meta unit blocks entries = map (λ e. (entry_line meta unit blocks e).file) entries

-- a row for each entry
abbrev pub rows_in : List SourceFile → Maps → (unit : SourceFile) → List Block → List EncodedInstruction → List Row
rows_in files meta unit blocks entries = map (λ e. row_of_line files e.address (entry_line meta unit blocks e)) entries
