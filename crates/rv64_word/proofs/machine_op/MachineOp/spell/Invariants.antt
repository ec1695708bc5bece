use Rattle.std.proofs.Common.{◌≡◌, take}
use Rattle.rv64_word.specs.Format.{spelled}
use Rattle.rv64_word.specs.MachineOp.{value_of}
use Rattle.rv64_word.proofs.machine_op.MachineOp.spell.Given as goal

abbrev pub invariant-loop-slice : goal.invariant-loop-slice
invariant-loop-slice l = l.word ≡ spelled (take l.slice-index l.slice-items) (value_of l.self)
