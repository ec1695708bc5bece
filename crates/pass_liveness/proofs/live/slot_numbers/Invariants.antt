use Rattle.std.proofs.Common.{◌≡◌, take}
use Rattle.pass_liveness.proofs.live.slot_numbers.Given as goal

abbrev pub invariant-loop-slot : goal.invariant-loop-slot
invariant-loop-slot l = l.numbers.items ≡ take l.slot-index l.slots
