use Rattle.std.proofs.Common.{◌≡◌, ◌++◌, map, take}
use Rattle.spill_code.specs.Rewrite.{added, store}
use Rattle.spill_code.proofs.added.push_entry.Given as goal

abbrev pub invariant-loop-home : goal.invariant-loop-home
invariant-loop-home l = l.items ≡ l.initial.items ++ map (λ h. added l.start (store h.register h.slot)) (take l.home-index l.entry)
