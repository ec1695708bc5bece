-- The contents of the line number section for a program's machine code.
use Rattle.std.specs.Prelude.{◌≡◌, ℕ, List, Option}
use Rattle.emit_code.specs.declared.code.EncodedInstruction.{EncodedInstruction}
use Rattle.listing_text.specs.declared.output.Output.{Output}
use Rattle.dwarf_line.specs.declared.table.Row.{Row}
use Rattle.dwarf_line.specs.Spelling.{spelling as rows_spelling}
use Rattle.dwarf_line_table.specs.Laws.{HasCodeAt}
use Rattle.dwarf_line_table.specs.Rows.{GivesLine, IsRowAt}
use Rattle.read_metadata.specs.Maps.{Maps}
use Rattle.frame_theorem.specs.compile_theorem.Source.{PassedFunction}
use Rattle.selftest_command.specs.run_command.Program.{HaveCode}
use Rattle.dwarf_line_table.specs.declared.source_and_code.SourceAndCode.{SourceAndCode}
use Rattle.dwarf_line_table.specs.Program.{program_file, table_with}
use Rattle.dwarf_line_table.specs.Table.{entry_line}

-- The line number section encodes a line table, with the files of further scopes (of inlined functions' calls) behind those that code uses. At the address of
-- each byte of machine code the table has the file, line and column, in the function that was read, of the first code at or after the origin of the machine
-- code there. No other address has a row.
pub record GivesLines (meta : Maps) (functions : List PassedFunction) (o : Output) : Type 0 where
  pub compiled : List SourceAndCode
  pub coded : HaveCode functions compiled
  pub further : List (Option ℕ)
  pub rows : o.rows ≡ rows_spelling (table_with meta compiled further)
  pub lines : (address : ℕ) (f : SourceAndCode) (e : EncodedInstruction) → HasCodeAt compiled address f e →
      GivesLine (table_with meta compiled further) address (entry_line meta (program_file meta compiled) f.source.now.blocks e)
  pub outside : (address : ℕ) → ((f : SourceAndCode) (e : EncodedInstruction) → HasCodeAt compiled address f e → ⊥) → (row : Row) →
      IsRowAt (table_with meta compiled further) address row → ⊥
