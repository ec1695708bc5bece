use Rattle.std.proofs.Common.{◌≡◌, ◌<◌, max, drop}
use Rattle.scan_liveness.specs.Registers.{greatest_in}
use Rattle.scan_liveness.proofs.registers.greatest_in.Given as goal

abbrev pub invariant-loop-item : goal.invariant-loop-item
invariant-loop-item l = record {
  greatest : max l.most (greatest_in (drop l.item-index l.items)) ≡ greatest_in l.items;
  below : l.most < 4128;
}
