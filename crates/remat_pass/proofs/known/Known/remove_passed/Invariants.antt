use Rattle.std.proofs.Common.{◌≡◌, cond, None, take}
use Rattle.rv64_instr.specs.declared.place.Place.{Place}
use Rattle.rv64_instr.specs.LocationEffects.{is_passed}
use Rattle.remat_pass.specs.Table.{known_by}
use Rattle.remat_pass.proofs.known.Known.remove_passed.Given as goal

abbrev pub invariant-loop-operand : goal.invariant-loop-operand
invariant-loop-operand l = (x : Place) → known_by l.self.registers l.self.slots x
    ≡ cond (is_passed x (take l.operand-index l.operands)) None (known_by l.initial.self.registers l.initial.self.slots x)
