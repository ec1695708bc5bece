use Rattle.std.proofs.Common.{◌≡◌, drop}
use Rattle.read_item.specs.Code.{definitions, append_to}
use Rattle.read_item.proofs.operand.definitions.Given as goal

-- what is read and what is left make the whole
abbrev pub invariant-loop-register : goal.invariant-loop-register
invariant-loop-register l = append_to l.operands (definitions (drop l.register-index l.registers)) ≡ definitions l.registers
