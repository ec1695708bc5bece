use Rattle.std.proofs.Common.{◌≡◌, ℕ, cond, nat_lt, nat_eq, get_or}
use Rattle.std.specs.List.{list_any}
use Rattle.rv64_instr.specs.DefsAndUses.{caller_saved}
use Rattle.kept_ranges.proofs.places.clear_caller_saved.Given as goal

abbrev pub invariant-loop-r : goal.invariant-loop-r
invariant-loop-r l = record {
  places : (j : ℕ) → get_or l.places j 0
      ≡ cond (nat_lt j l.r) (cond (list_any (nat_eq j) caller_saved) 0 (get_or l.initial.places j 0)) (get_or l.initial.places j 0);
}
