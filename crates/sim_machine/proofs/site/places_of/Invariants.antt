use Rattle.std.proofs.Common.{◌≡◌, ◌++◌, drop}
use Rattle.sim_machine.specs.Shown.{word_places}
use Rattle.sim_machine.proofs.site.places_of.Given as goal

abbrev pub invariant-loop-i : goal.invariant-loop-i
invariant-loop-i l = l.places.items ++ word_places l.i (drop l.i l.entries) ≡ word_places 0 l.entries
