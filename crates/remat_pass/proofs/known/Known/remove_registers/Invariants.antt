use Rattle.std.proofs.Common.{◌≡◌, cond, None, take}
use Rattle.rv64_instr.specs.declared.place.Place.{Place}
use Rattle.remat_pass.specs.Table.{known_by, is_among}
use Rattle.remat_pass.proofs.known.Known.remove_registers.Given as goal

abbrev pub invariant-loop-r : goal.invariant-loop-r
invariant-loop-r l = (x : Place) → known_by l.self.registers l.self.slots x
    ≡ cond (is_among x (take l.r-index l.numbers)) None (known_by l.initial.self.registers l.initial.self.slots x)
