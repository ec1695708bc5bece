use Rattle.std.proofs.Common.{◌≡◌, length, take}
use Rattle.frame_table.specs.Table.{distances_from}
use Rattle.frame_table.proofs.saved.distances.Given as goal

abbrev pub invariant-loop-register : goal.invariant-loop-register
invariant-loop-register l = record {
  count : length l.distances ≡ 32;
  are : take l.register l.distances ≡ distances_from l.framed 0 l.register;
}
