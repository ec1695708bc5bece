use Rattle.std.proofs.Common.{◌≡◌, map, take}
use Rattle.scan_settle.proofs.choice.registers_of.Given as goal

abbrev pub invariant-loop-i : goal.invariant-loop-i
invariant-loop-i l = l.registers ≡ map (λ i. i.register) (take l.i-index l.intervals)
