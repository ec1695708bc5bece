-- The registers that share a place, as sets.
use Rattle.std.specs.Prelude.{◌≡◌, ℕ, ◌<◌, ◌≤◌, List, [], length, slice_index_or, Option, Bool, false, nat_eq}
use Rattle.rv64_instr.specs.declared.place.Place.{Place}
use Rattle.rv64_instr.specs.declared.place.Place.TheVariants.{Register, Slot, Const}
use Rattle.rv64_instr.specs.DefsAndUses.{caller_saved}
use Rattle.pass_liveness.specs.Sets.{has}
use Rattle.scan_choice.specs.scan_allocation.Coloring.{now}
use Rattle.scan_choice.specs.Given.{given_by}
use Rattle.scan_stale.specs.Flow.{Places, taken_by}
use Rattle.scan_stale.specs.Written.{AreReal}

-- the registers whose value is in physical register q
abbrev pub is_sharing : (given : ℕ → Option ℕ) (q : ℕ) → Places
is_sharing given q (Register r) = nat_eq q (now given r)
is_sharing given q (Slot n) = false
is_sharing given q (Const c) = false

-- the sets are those of the registers that share x0, x1 and so on, and of those whose place a call takes
pub record AreShared (given : List (Option ℕ)) (shared : List (List ℕ)) (calls : List ℕ) : Type 0 where
  pub few : length given ≤ 4096
  pub real : AreReal (given_by given)
  pub long : length shared ≡ 32
  pub each : (q : ℕ) → q < 32 → (slots : List ℕ) (x : Place) → length slots ≤ 256 → has slots (slice_index_or shared q []) x ≡ is_sharing (given_by given) q x
  pub called : (slots : List ℕ) (x : Place) → length slots ≤ 256 → has slots calls x ≡ taken_by (given_by given) caller_saved x
