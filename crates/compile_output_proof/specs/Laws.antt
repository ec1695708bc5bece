-- The output of a program that was read is printable.
use Rattle.std.specs.Prelude.{List}
use Rattle.listing_text.specs.declared.output.Output.{Output}
use Rattle.listing_text.specs.Shown.{IsPrintableOutput}
use Rattle.compile_program.specs.listing_proof.Laws.{inlined_in}
use Rattle.read_program.specs.declared.program.Program.{Program}
use Rattle.compile_program.specs.compile_theorem.Compiled.{IsCompiledProgram}
use Rattle.compile_program.specs.compile_theorem.Source.{PassedFunction}
use Rattle.compile_program.specs.Program.{ArePassed, HasSections, names_of}
use Rattle.compile_program.specs.read_proof.Read.{IsReadProgram}

-- An output that is compiled of passed functions of a program that was read, with its sections, is printable: its numbers and addresses have 32 bits,
-- and its items are printable.
abbrev pub OutputsArePrintable : Type 0
OutputsArePrintable = (p : Program) (functions : List PassedFunction) (o : Output) → IsReadProgram p → ArePassed p.meta p.functions functions →
    IsCompiledProgram (names_of p.meta) functions o → HasSections p.meta functions o → IsPrintableOutput (inlined_in p.meta) o
