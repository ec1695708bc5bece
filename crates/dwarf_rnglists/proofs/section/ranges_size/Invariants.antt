use Rattle.std.proofs.Common.{◌≡◌, ◌<◌, ◌+◌, ◌*◌, ◌^◌, take, length}
use Rattle.dwarf_rnglists.specs.Spelling.{bodies}
use Rattle.dwarf_rnglists.proofs.section.ranges_size.Given as goal

abbrev pub invariant-loop-list : goal.invariant-loop-list
invariant-loop-list l = record {
  counted : l.size ≡ 12 + 4 * l.list-index + length (bodies (take l.list-index l.lists));
  small : l.size < 2 ^ 31;
}
