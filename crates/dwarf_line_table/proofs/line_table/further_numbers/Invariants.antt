use Rattle.std.proofs.Common.{drop}
use Rattle.dwarf_line_table.proofs.FurtherSteps.{FurtherSoFar}
use Rattle.dwarf_line_table.proofs.line_table.further_numbers.Given as goal

abbrev pub invariant-loop-scope : goal.invariant-loop-scope
invariant-loop-scope l = FurtherSoFar l.meta l.initial.files l.files l.scopes (drop l.scope-index l.scopes) l.numbers
