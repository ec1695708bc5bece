use Rattle.std.proofs.Common.{◌≡◌, All, length, take}
use Rattle.dwarf_frame.specs.Table.{IsDistance}
use Rattle.test_sections.proofs.frame_rows.are_distances.Given as goal

abbrev pub invariant-loop-distance : goal.invariant-loop-distance
invariant-loop-distance l = record {
  count : length l.saved ≡ 32;
  are : All IsDistance (take l.distance-index l.saved);
}
