use Rattle.std.proofs.Common.{drop}
use Rattle.dwarf_line_table.specs.Program.{scope_number}
use Rattle.dwarf_unit.specs.Inlined.{call_scopes}
use Rattle.dwarf_unit.proofs.InlinedFunctions.{UnitSoFar}
use Rattle.dwarf_unit.proofs.inlined.make_inlined_unit.Given as goal

abbrev pub invariant-loop-index : goal.invariant-loop-index
invariant-loop-index l =
    UnitSoFar l.meta (scope_number l.meta l.functions (call_scopes l.meta l.instances)) l.numbers l.types l.subprograms l.list l.call l.functions
    (drop l.index l.functions) l.instances (drop l.index l.instances) l.made
