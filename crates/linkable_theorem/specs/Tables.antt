-- What the contents of the debug sections of an object that a linker places guarantee of the compiled program.
use Rattle.std.specs.Prelude.{ℕ, Bool, List}
use Rattle.pass_list.specs.declared.kind.PassKind.{PassKind}
use Rattle.read_metadata.specs.read_lexer.declared.line.Line.{Line}
use Rattle.read_debug_nodes.specs.Metadata.{debug_metadata}
use Rattle.compile_program.specs.read_program.declared.program.Program.{Program}
use Rattle.compile_program.specs.declared.compile.Compilation.{Compilation}
use Rattle.compile_program.specs.Program.{IsCompilationOf, sources_of}
use Rattle.program_rows.specs.Stand.{RowsStand}
use Rattle.linkable_frames.specs.Laws.{TablesUnwind}
use Rattle.linkable_program.specs.linkable_command.declared.tables.DebugTables.{DebugTables}
use Rattle.linkable_program.specs.Program.{AreTablesOf}

-- The rows of each function give each address its source position, and the second one is at the end of the prologue. The call frame information, if there is
-- some, unwinds in each function, with the registers undefined that a function doesn't give back: from every start, at each line that the machine comes to.
pub record Guarantee (lines : List Line) (p : Program) (c : Compilation) (with_frame : Bool) (t : DebugTables) (are : AreTablesOf lines p c with_frame t)
    : Type 0 where
  pub rows : RowsStand (debug_metadata lines) p.meta are.compiled t.rows
  pub unwinds : TablesUnwind (sources_of p.functions) c.output t.frames

-- So it is of each compiled program.
abbrev pub TablesGuarantee : Type 0
TablesGuarantee = (lines : List Line) (reserve : List ℕ) (passes : List PassKind) (p : Program) (c : Compilation) → IsCompilationOf reserve passes p c →
    (with_frame : Bool) (t : DebugTables) → (are : AreTablesOf lines p c with_frame t) → Guarantee lines p c with_frame t are
