use Rattle.std.proofs.Common.{◌≡◌, ◌≤◌, ◌<◌, ℕ, List, [], length, slice_index_or}
use Rattle.rv64_instr.specs.declared.place.Place.{Place}
use Rattle.pass_liveness.specs.Sets.{has}
use Rattle.scan_choice.specs.Given.{given_by}
use Rattle.scan_stale.specs.Shared.{is_sharing}
use Rattle.scan_stale.proofs.places.all_sharing.Given as goal

abbrev pub invariant-loop-q : goal.invariant-loop-q
invariant-loop-q l = record {
  long : length l.shared.items ≡ l.q;
  each : (q : ℕ) → q < l.q → (slots : List ℕ) (x : Place) → length slots ≤ 256 →
      has slots (slice_index_or l.shared.items q []) x ≡ is_sharing (given_by l.given) q x;
}
