use Rattle.std.proofs.Common.{◌≡◌, ◌+◌, ◌*◌, take}
use Rattle.frame_rule.specs.Rule.{saved_places}
use Rattle.frame_lowering.proofs.places.saved_places.Given as goal

abbrev pub invariant-loop-register : goal.invariant-loop-register
invariant-loop-register l = (l.places ≡ saved_places l.from (take l.register-index l.registers)) × (l.offset ≡ l.from + 8 * l.register-index)
