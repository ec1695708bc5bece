use Rattle.std.proofs.Common.{◌≡◌, ◌<◌, max, drop}
use Rattle.scan_liveness.specs.Registers.{greatest_register}
use Rattle.scan_liveness.proofs.registers.greatest_register.Given as goal

abbrev pub invariant-loop-block : goal.invariant-loop-block
invariant-loop-block l = record {
  greatest : max l.most (greatest_register (drop l.block-index l.blocks)) ≡ greatest_register l.blocks;
  below : l.most < 4128;
}
