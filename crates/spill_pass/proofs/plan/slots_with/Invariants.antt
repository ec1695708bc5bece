use Rattle.std.proofs.Common.{◌≡◌, ◌++◌, map, take}
use Rattle.spill_pass.proofs.plan.slots_with.Given as goal

abbrev pub invariant-loop-h : goal.invariant-loop-h
invariant-loop-h l = l.made ≡ l.initial.made ++ map (λ h. h.slot) (take l.h-index l.homes)
