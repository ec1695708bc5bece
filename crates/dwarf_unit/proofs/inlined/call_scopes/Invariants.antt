use Rattle.std.proofs.Common.{◌≡◌, ◌++◌, drop}
use Rattle.dwarf_unit.specs.Inlined.{call_scopes}
use Rattle.dwarf_unit.proofs.inlined.call_scopes.Given as goal

abbrev pub invariant-loop-within : goal.invariant-loop-within
invariant-loop-within l = l.scopes ++ call_scopes l.meta (drop l.within-index l.instances) ≡ call_scopes l.meta l.instances
