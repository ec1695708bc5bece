use Rattle.std.proofs.Common.{drop}
use Rattle.dwarf_unit.proofs.Entries.{VariablesSoFar}
use Rattle.dwarf_unit.proofs.variable.variables_from.Given as goal

abbrev pub invariant-loop-v : goal.invariant-loop-v
invariant-loop-v l = VariablesSoFar l.meta l.initial.types l.types l.first l.list l.variables (drop l.v-index l.variables) l.entries
