use Rattle.std.proofs.Common.{◌≡◌, ◌+◌, ◌*◌, ◌≤◌, length, drop}
use Rattle.dwarf_frame.specs.Spelling.{restores}
use Rattle.dwarf_frame.proofs.size.restores_len.Given as goal

abbrev pub invariant-loop-distance : goal.invariant-loop-distance
invariant-loop-distance l = record {
  counted : l.len + length (restores l.distance-index (drop l.distance-index l.saved)) ≡ length (restores 0 l.saved);
  within : l.len ≤ 11 * l.distance-index;
}
