-- That a variable has one list.
use Rattle.std.specs.Prelude.{◌≡◌, List}
use Rattle.mir_func.specs.declared.position.Pos.{Pos}
use Rattle.mir_func.specs.declared.variable.VarId.{VarId}
use Rattle.mir_func.specs.Graph.{Program}
use Rattle.emit_code.specs.declared.code.EncodedInstruction.{EncodedInstruction}
use Rattle.dwarf_loclists.specs.declared.range.Range.{Range}
use Rattle.location_ranges.specs.Lists.{AreRangesOf}

-- over the same entries of a program the ranges of a variable are the same
abbrev pub RangesAreUnique : Type 0
RangesAreUnique = (g : Program) (start : Pos) (entries : List EncodedInstruction) (v : VarId) (xs ys : List Range) →
    AreRangesOf g start entries v xs → AreRangesOf g start entries v ys → xs ≡ ys
