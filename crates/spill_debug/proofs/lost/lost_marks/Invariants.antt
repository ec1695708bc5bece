use Rattle.std.proofs.Common.{◌≡◌, map, take}
use Rattle.spill_debug.specs.Lost.{mark_from}
use Rattle.spill_debug.proofs.lost.lost_marks.Given as goal

abbrev pub invariant-loop-p : goal.invariant-loop-p
invariant-loop-p l = l.losses ≡ map (λ p. mark_from p l.why) (take l.p-index l.p-items)
