use Rattle.std.proofs.Common.{◌≡◌, ◌&&◌, not, take}
use Rattle.rv64_instr.specs.declared.place.Place.{Place}
use Rattle.pass_liveness.specs.Sets.{has}
use Rattle.pass_liveness.specs.Steps.{is_among}
use Rattle.pass_liveness.proofs.names.SlotAndBlockNumbers.remove_registers.Given as goal

abbrev pub invariant-loop-n : goal.invariant-loop-n
invariant-loop-n l = (x : Place) → has l.self.slots l.set x ≡ (has l.self.slots l.initial.set x && not (is_among x (take l.n-index l.numbers)))
