-- The contents of the debug sections of a compiled program.
use Rattle.std.specs.Prelude.{All, Option, None, Some, IfSome}
use Rattle.std.specs.List.{AllZip}
use Rattle.std.proofs.Common.{ℕ, ◌<◌, ◌^◌, Bool, List, length, map, sym, subst}
use Rattle.std.proofs.lemmas.List.Elements.{All-weaker}
use Rattle.emit_code.specs.Laid.{LaidCode}
use Rattle.dwarf_frame.specs.declared.table.FrameDescription.{FrameDescription}
use Rattle.dwarf_frame.specs.Spelling.{spelling}
use Rattle.dwarf_frame.specs.Table.{IsDescription}
use Rattle.frame_table.specs.Table.{Describes}
use Rattle.pass_list.specs.declared.kind.PassKind.{PassKind}
use Rattle.read_metadata.specs.read_lexer.declared.line.Line.{Line}
use Rattle.read_debug_nodes.specs.Metadata.{debug_metadata}
use Rattle.frame_theorem.specs.Unwinding.{AllUnwind}
use Rattle.compile_program.specs.compile_theorem.Compiled.{AreCompiled}
use Rattle.compile_program.specs.compile_theorem.Laws.{AreCompiledTo}
use Rattle.compile_program.specs.compile_theorem.Source.{SourceFunction}
use Rattle.compile_program.specs.dwarf_sections.Frame.{IsOfFunction}
use Rattle.compile_program.specs.read_program.declared.program.Program.{Program}
use Rattle.compile_program.specs.declared.compile.Compilation.{Compilation}
use Rattle.compile_program.specs.Program.{IsCompilationOf, names_of, lists_of, sources_of}
use Rattle.compile_program.proofs.Compiled.{all_coded, all_compiled}
use Rattle.compile_program.proofs.Passed.{all_passed, passed_sources}
use Rattle.dwarf_line_table.specs.declared.source_and_code.SourceAndCode.{SourceAndCode}
use Rattle.program_rows.specs.Stand.{IsInOrder, RowsStand}
use Rattle.program_rows.proofs.Standing.{rows_stand}
use Rattle.linkable_frames.specs.Laws.{TablesUnwind}
use Rattle.linkable_frames.proofs.Descriptions.{descriptions_unwind}
use Rattle.linkable_program.specs.linkable_command.declared.tables.DebugTables.{DebugTables}
use Rattle.linkable_program.specs.linkable_command.Linkable.{LOST}
use Rattle.linkable_program.specs.Program.{AreTablesOf}
use Rattle.linkable_program.proofs.Compiled.{codes_of}
use Rattle.linkable_theorem.specs.Tables.{TablesGuarantee}
use Rattle.linkable_theorem.proofs.Rows.{in_order}

module _ (lines : List Line) (reserve : List ℕ) (passes : List PassKind) (p : Program) (c : Compilation) (is : IsCompilationOf reserve passes p c)
    (with_frame : Bool) (t : DebugTables) (are : AreTablesOf lines p c with_frame t) where
  to : AreCompiledTo (names_of p.meta) is.functions c.output
  to = record {
    passed = all_passed p.meta p.functions is.functions is.passed;
    compiled = record {
      lists = lists_of c.functions;
      section = is.section;
      functions =
          subst (λ (text : List ℕ). AreCompiled (names_of p.meta) 0 0 text (lists_of c.functions) is.functions c.output.functions) (sym is.text)
          (all_compiled (names_of p.meta) reserve passes 0 0 is.functions c.output.functions c.functions is.compiled);
    };
  }

  rows : RowsStand (debug_metadata lines) p.meta are.compiled t.rows
  rows =
      rows_stand (debug_metadata lines) p.meta are.compiled t.rows are.are.rows
      (All-weaker (λ (f : SourceAndCode). IsOfFunction f.code.now) IsInOrder in_order are.compiled (codes_of reserve passes p c is are.compiled are.of.codes))

  unwinds : TablesUnwind (sources_of p.functions) c.output t.frames
  unwinds = by t.frames are.are.frames are.are.writable.frames are.are.writable.frame
    where
      by : (x : Option (List FrameDescription)) → IfSome x (AllZip Describes (map (λ f. f.code.now) are.compiled)) → IfSome x (All IsDescription)
          → IfSome x (λ table. length (spelling LOST table) < 2 ^ 31) → TablesUnwind (sources_of p.functions) c.output x
      by None described descriptions small = tt
      by (Some table) described descriptions small =
          subst (λ (ss : List SourceFunction). AllUnwind LOST (spelling LOST table) ss c.output)
          (sym (passed_sources p.meta p.functions is.functions is.passed))
          (descriptions_unwind (names_of p.meta) is.functions c.output to (map (λ f. f.code) c.functions)
          (all_coded (names_of p.meta) reserve passes 0 0 is.functions c.output.functions c.functions is.compiled) table
          (subst (λ (cs : List LaidCode). AllZip Describes cs table) are.of.codes described) descriptions small)

pub tables_guarantee : TablesGuarantee
tables_guarantee lines reserve passes p c is with_frame t are = record {
  rows = rows lines reserve passes p c is with_frame t are;
  unwinds = unwinds lines reserve passes p c is with_frame t are;
}
