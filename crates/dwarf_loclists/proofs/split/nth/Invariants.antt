use Rattle.dwarf_loclists.specs.declared.range.Location.{Location}
use Rattle.dwarf_loclists.specs.Spelling.{Spells}
use Rattle.dwarf_loclists.proofs.SplitLemmas.{Left}
use Rattle.dwarf_loclists.proofs.split.nth.Given as goal

abbrev pub invariant-loop : goal.invariant-loop
invariant-loop l = (location : Location) → Spells l.bytes location → Left location l.counter l.from l.rest
