use Rattle.std.proofs.Common.{◌≡◌, ◌&&◌, not, take}
use Rattle.rv64_instr.specs.declared.place.Place.{Place}
use Rattle.rv64_instr.specs.LocationEffects.{is_passed}
use Rattle.pass_liveness.specs.Sets.{has}
use Rattle.pass_liveness.proofs.names.SlotAndBlockNumbers.remove_passed.Given as goal

abbrev pub invariant-loop-operand : goal.invariant-loop-operand
invariant-loop-operand l = (x : Place) →
    has l.self.slots l.set x ≡ (has l.self.slots l.initial.set x && not (is_passed x (take l.operand-index l.operands)))
