use Rattle.std.proofs.Common.{◌≡◌, ◌*◌, take}
use Rattle.frame_rule.specs.Rule.{slot_places}
use Rattle.frame_lowering.proofs.places.slot_places.Given as goal

abbrev pub invariant-loop-slot : goal.invariant-loop-slot
invariant-loop-slot l = (l.places ≡ slot_places 0 (take l.slot-index l.slots)) × (l.offset ≡ 8 * l.slot-index)
