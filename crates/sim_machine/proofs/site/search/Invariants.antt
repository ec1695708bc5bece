use Rattle.std.proofs.Common.{◌≡◌, drop}
use Rattle.sim_machine.specs.Shown.{entry_at}
use Rattle.sim_machine.proofs.site.search.Given as goal

abbrev pub invariant-loop-entry : goal.invariant-loop-entry
invariant-loop-entry l = entry_at (drop l.entry-index l.entries) l.address ≡ entry_at l.entries l.address
