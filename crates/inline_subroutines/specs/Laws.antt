-- Laws of the inlined subroutines of a function.
use Rattle.std.specs.Prelude.{◌↔◌, ℕ, ◌+◌, ◌<◌, ◌≤◌, List, All, Contains}
use Rattle.read_metadata.specs.Maps.{Maps}
use Rattle.inline_instances.specs.emit_code.declared.code.EncodedInstruction.{EncodedInstruction}
use Rattle.inline_instances.specs.emit_code.Laid.{StandFrom}
use Rattle.inline_instances.specs.dwarf_line_table.declared.source_and_code.SourceAndCode.{SourceAndCode}
use Rattle.inline_instances.specs.dwarf_line_table.Program.{function_end}
use Rattle.dwarf_rnglists.specs.Ranges.{Ascend, Cover}
use Rattle.inline_instances.specs.Laws.{IsInlinedThrough}
use Rattle.inline_subroutines.specs.declared.subroutine.InlinedSubroutine.{InlinedSubroutine}
use Rattle.inline_subroutines.specs.Subroutines.{AreSubroutines, AreOrdered}

-- An address of an instruction is in the ranges of a subroutine exactly if the first code at or after the instruction's origin was inlined through the
-- subroutine's call.
abbrev pub RangesAreOfInlinedCode : Type 0
RangesAreOfInlinedCode = (meta : Maps) (f : SourceAndCode) (subroutines : List InlinedSubroutine) → AreSubroutines meta f subroutines →
    StandFrom f.code.now.base f.code.now.entries (function_end f) → (e : EncodedInstruction) (address : ℕ) → Contains f.code.now.entries e →
    e.address ≤ address → address < e.address + e.size → (s : InlinedSubroutine) → Contains subroutines s →
    Cover s.ranges address ↔ IsInlinedThrough meta f e s.call

-- The ranges of a subroutine ascend, and no two touch.
abbrev pub RangesAscend : Type 0
RangesAscend = (meta : Maps) (f : SourceAndCode) (subroutines : List InlinedSubroutine) → AreSubroutines meta f subroutines →
    StandFrom f.code.now.base f.code.now.entries (function_end f) → All (λ s. Ascend s.ranges) subroutines

-- A call has one subroutine at most, which stands behind the one in whose code it is.
abbrev pub SubroutinesAreOrdered : Type 0
SubroutinesAreOrdered = (meta : Maps) (f : SourceAndCode) (subroutines : List InlinedSubroutine) → AreSubroutines meta f subroutines → AreOrdered subroutines
