use Rattle.std.proofs.Common.{drop}
use Rattle.dwarf_unit.proofs.InlinedFunctions.{FunctionSoFar}
use Rattle.dwarf_unit.proofs.inlined.inlined_function.Given as goal

abbrev pub invariant-loop-v : goal.invariant-loop-v
invariant-loop-v l =
    FunctionSoFar l.meta l.initial.types l.types l.first l.list l.variables (drop l.v-index l.variables) l.instances l.initial.calls.items l.own l.calls.items
