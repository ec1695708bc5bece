use Rattle.std.proofs.Common.{◌≡◌, ◌||◌, false}
use Rattle.rv64_instr.specs.declared.place.Place.{Place}
use Rattle.pass_liveness.specs.Sets.{has}
use Rattle.scan_choice.specs.Given.{given_by}
use Rattle.scan_stale.specs.Flow.{is_unset}
use Rattle.scan_stale.proofs.Taken.{below}
use Rattle.scan_stale.proofs.transfer.unset_at_start.Given as goal

abbrev pub invariant-loop-n : goal.invariant-loop-n
invariant-loop-n l = (x : Place) → has l.names.slots l.set x ≡ (below l.n (is_unset (given_by l.given)) x || false)
