use Rattle.std.proofs.Common.{◌≡◌, ◌+◌, ℕ, cond, nat_lt, nat_eq, get_or}
use Rattle.std.specs.List.{list_any}
use Rattle.rv64_instr.specs.DefsAndUses.{caller_saved}
use Rattle.value_tracker.proofs.location_tracker.renew.Given as goal

abbrev pub invariant-loop-r : goal.invariant-loop-r
invariant-loop-r l = record {
  places : (j : ℕ) → get_or l.places j 0 ≡ cond (nat_lt j l.r) (cond (list_any (λ q. nat_eq j q) caller_saved) (l.next + j) (get_or l.initial.places j 0))
      (get_or l.initial.places j 0);
}
