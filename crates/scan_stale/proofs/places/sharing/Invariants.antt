use Rattle.std.proofs.Common.{◌≡◌, ◌≤◌, ◌||◌, ℕ, List, length, false}
use Rattle.rv64_instr.specs.declared.place.Place.{Place}
use Rattle.pass_liveness.specs.Sets.{has}
use Rattle.scan_choice.specs.Given.{given_by}
use Rattle.scan_stale.specs.Shared.{is_sharing}
use Rattle.scan_stale.proofs.Taken.{below}
use Rattle.scan_stale.proofs.places.sharing.Given as goal

abbrev pub invariant-loop-n : goal.invariant-loop-n
invariant-loop-n l = (slots : List ℕ) (x : Place) → length slots ≤ 256 → has slots l.set x ≡ (below l.n (is_sharing (given_by l.given) l.q) x || false)
