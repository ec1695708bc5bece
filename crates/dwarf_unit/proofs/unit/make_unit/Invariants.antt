use Rattle.std.proofs.Common.{drop}
use Rattle.dwarf_unit.proofs.Entries.{FunctionsSoFar}
use Rattle.dwarf_unit.proofs.unit.make_unit.Given as goal

abbrev pub invariant-loop-function : goal.invariant-loop-function
invariant-loop-function l = FunctionsSoFar l.meta l.types l.list l.functions (drop l.function-index l.functions) l.entries
