use Rattle.std.proofs.Common.{◌≡◌, ℕ, List, [], length, false}
use Rattle.std.specs.Prelude.{slice_index_or}
use Rattle.rv64_instr.specs.declared.place.Place.{Place}
use Rattle.pass_liveness.specs.Sets.{has}
use Rattle.pass_liveness.proofs.live.empty_sets.Given as goal

abbrev pub invariant-loop : goal.invariant-loop
invariant-loop l = (length l.sets.items ≡ l.counter) × ((slots : List ℕ) (b : ℕ) (x : Place) → has slots (slice_index_or l.sets.items b []) x ≡ false)
