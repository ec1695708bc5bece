use Rattle.std.proofs.Common.{◌≡◌, ℕ, cond, nat_eq, Some, take}
use Rattle.std.specs.List.{list_any}
use Rattle.std.specs.HashMap.{get}
use Rattle.pass_salvage.proofs.above.put_all.Given as goal

abbrev pub invariant-loop-key : goal.invariant-loop-key
invariant-loop-key l = (s : ℕ) → get nat_eq l.table s ≡ cond (list_any (nat_eq s) (take l.key-index l.keys)) (Some l.at) (get nat_eq l.initial.table s)
