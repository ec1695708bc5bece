use Rattle.std.proofs.Common.{◌≡◌, ℕ, take, nat_eq}
use Rattle.std.specs.HashSet.{contains}
use Rattle.fold_targets.specs.Ends.{told, end_in}
use Rattle.fold_undef.specs.Bypassed.{end_past}
use Rattle.fold_undef.specs.steps.Gathered.{kills_at, kills_to}
use Rattle.fold_undef.proofs.put.kills_by_end.Given as goal

abbrev pub invariant-loop-b : goal.invariant-loop-b
invariant-loop-b l = (e : ℕ) → kills_at l.kills e ≡
    kills_to (end_past (end_in l.ways.ends) (contains nat_eq l.ways.reached) (told l.ways.leads)) e (take l.b-index l.blocks)
