use Rattle.std.proofs.Common.{◌≡◌, ◌<◌, max, drop}
use Rattle.scan_liveness.specs.Registers.{greatest_operand}
use Rattle.scan_liveness.proofs.registers.greatest_operand.Given as goal

abbrev pub invariant-loop-operand : goal.invariant-loop-operand
invariant-loop-operand l = record {
  greatest : max l.most (greatest_operand (drop l.operand-index l.operands)) ≡ greatest_operand l.operands;
  below : l.most < 4128;
}
