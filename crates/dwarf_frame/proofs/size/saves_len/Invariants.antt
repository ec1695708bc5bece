use Rattle.std.proofs.Common.{◌≡◌, ◌+◌, ◌*◌, ◌≤◌, length, drop}
use Rattle.dwarf_frame.specs.Spelling.{saves}
use Rattle.dwarf_frame.proofs.size.saves_len.Given as goal

abbrev pub invariant-loop-distance : goal.invariant-loop-distance
invariant-loop-distance l = record {
  counted : l.len + length (saves l.distance-index (drop l.distance-index l.saved)) ≡ length (saves 0 l.saved);
  within : l.len ≤ 11 * l.distance-index;
}
