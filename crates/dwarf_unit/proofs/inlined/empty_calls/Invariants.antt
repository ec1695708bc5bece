use Rattle.std.proofs.Common.{drop}
use Rattle.dwarf_unit.proofs.InlinedFunctions.{CallsSoFar}
use Rattle.dwarf_unit.proofs.inlined.empty_calls.Given as goal

abbrev pub invariant-loop-k : goal.invariant-loop-k
invariant-loop-k l = CallsSoFar l.meta l.numbers l.initial.subprograms l.subprograms l.instances (drop l.k l.instances) l.calls.items
