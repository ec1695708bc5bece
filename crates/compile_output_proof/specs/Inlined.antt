-- The inlined functions of an output: their entries, and the listed lines that their ranges cover.
use Rattle.std.specs.Prelude.{◌≡◌, ◌↔◌, ℕ, zero, suc, ◌+◌, List, [], ◌∷◌, length, Some, IfSome, Contains, slice_get}
use Rattle.listing_text.specs.declared.output.Line.{Line}
use Rattle.listing_text.specs.declared.output.ListedFunction.{ListedFunction}
use Rattle.listing_text.specs.declared.output.Output.{Output}
use Rattle.dwarf_info.specs.Inlined.{inlined_spelling}
use Rattle.dwarf_rnglists.specs.Grammar.{IsInRange}
use Rattle.mir_func.specs.Function.{Function}
use Rattle.mir_func.specs.Positions.{position_of}
use Rattle.read_item.specs.Debug.{inlined_at}
use Rattle.read_metadata.specs.Maps.{Maps}
use Rattle.read_program.specs.declared.closing.Parsed.{Parsed}
use Rattle.read_program.specs.declared.program.Program.{Program}
use Rattle.compile_program.specs.compile_theorem.Compiled.{IsCompiledProgram}
use Rattle.compile_program.specs.compile_theorem.Source.{PassedFunction}
use Rattle.compile_program.specs.Program.{ArePassed, HaveCode, HasSections, names_of}
use Rattle.dwarf_line_table.specs.SourcePosition.{loc_of}
use Rattle.dwarf_line_table.specs.declared.source_and_code.SourceAndCode.{SourceAndCode}
use Rattle.compile_program.specs.dwarf_unit.Inlined.{inlined_unit_of}
use Rattle.compile_program.specs.dwarf_sections.Inlined.{HaveInstances}
use Rattle.inline_instances.specs.Calls.{AreCallsFrom, call_at}
use Rattle.compile_program.specs.inline_subroutines.declared.subroutine.InlinedSubroutine.{InlinedSubroutine}
use Rattle.compile_output_proof.specs.Lines.{origin_of, HasByte}

-- The calls through which a listed line was inlined, as numbers of nodes: a call is among them. The line's debug location is that of the first code at or
-- after its origin, in the function as it was read.
pub record IsLineInlinedThrough (meta : Maps) (source : Function) (line : Line) (n : ℕ) : Type 0 where
  pub calls : List ℕ
  pub are : AreCallsFrom meta (call_at meta (inlined_at meta (loc_of source.blocks (position_of (origin_of line))))) calls
  pub among : Contains calls n

-- the number of the first range list of a function, by its index: the lists are those of the instances of all functions, in their order
abbrev pub first_list : (instances : List (List InlinedSubroutine)) → (n : ℕ) → ℕ
first_list [] n = 0
first_list (is ∷ others) zero = 0
first_list (is ∷ others) (suc n) = length is + first_list others n

-- `.debug_info` has one entry for each instance of each function, under that of the instance in whose code the call is, or under the function's.
-- `.debug_rnglists` has a list for each: the address of a byte of a listed line is in it exactly if the line was inlined through the instance's call.
pub record TellsInlinedLines (p : Program) (functions : List PassedFunction) (o : Output) (ranges : List ℕ) : Type 0 where
  pub compiled : List SourceAndCode
  pub coded : HaveCode functions compiled
  pub instances : List (List InlinedSubroutine)
  pub have : HaveInstances p.meta compiled instances
  pub entries : o.info ≡ inlined_spelling (inlined_unit_of p.meta (length o.text) compiled instances)
  pub covers : (n m : ℕ) (source : Parsed) (f : ListedFunction) (is : List InlinedSubroutine) (i : InlinedSubroutine) →
      slice_get p.functions n ≡ Some source → slice_get o.functions n ≡ Some f → slice_get instances n ≡ Some is → slice_get is m ≡ Some i →
      (address : ℕ) (line : Line) → HasByte f address line →
      IsInRange ranges (first_list instances n + m) address ↔ IsLineInlinedThrough p.meta source.func line i.call

-- The output that is compiled of passed functions of a program that was read, with its sections, tells so of inlined functions if it has `.debug_rnglists`.
abbrev pub OutputsTellInlinedLines : Type 0
OutputsTellInlinedLines = (p : Program) (functions : List PassedFunction) (o : Output) → ArePassed p.meta p.functions functions →
    IsCompiledProgram (names_of p.meta) functions o → HasSections p.meta functions o → IfSome o.ranges (TellsInlinedLines p functions o)
