use Rattle.dwarf_sections.proofs.Described.{SoFar}
use Rattle.dwarf_sections.proofs.sections.descriptions.Given as goal

abbrev pub invariant-loop-function : goal.invariant-loop-function
invariant-loop-function l = SoFar l.functions l.function-index l.table
