use Rattle.std.proofs.Common.{◌≡◌, ◌||◌, take, All}
use Rattle.rv64_instr.specs.declared.place.Place.{Place}
use Rattle.rv64_instr.specs.LocationEffects.{is_passed}
use Rattle.mir_func.specs.Sound.{PassedIn}
use Rattle.pass_liveness.specs.Sets.{has}
use Rattle.pass_liveness.proofs.names.SlotAndBlockNumbers.insert_passed.Given as goal

abbrev pub invariant-loop-operand : goal.invariant-loop-operand
invariant-loop-operand l = All (PassedIn l.self.slots) l.operands → (x : Place) →
    has l.self.slots l.set x ≡ (is_passed x (take l.operand-index l.operands) || has l.self.slots l.initial.set x)
