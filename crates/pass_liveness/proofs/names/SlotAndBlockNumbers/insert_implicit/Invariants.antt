use Rattle.std.proofs.Common.{◌≡◌, ◌||◌, take}
use Rattle.rv64_instr.specs.declared.place.Place.{Place}
use Rattle.pass_liveness.specs.Sets.{has}
use Rattle.pass_liveness.specs.Steps.{reads_implicitly}
use Rattle.pass_liveness.proofs.names.SlotAndBlockNumbers.insert_implicit.Given as goal

abbrev pub invariant-loop-operand : goal.invariant-loop-operand
invariant-loop-operand l = (x : Place) →
    has l.self.slots l.set x ≡ (reads_implicitly x (take l.operand-index l.operands) || has l.self.slots l.initial.set x)
