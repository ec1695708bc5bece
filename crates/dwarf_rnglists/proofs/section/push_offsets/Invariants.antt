use Rattle.std.proofs.Common.{◌≡◌, ◌+◌, ◌*◌, ◌++◌, take, drop, length}
use Rattle.dwarf_rnglists.specs.Spelling.{bodies, offsets_from}
use Rattle.dwarf_rnglists.proofs.section.push_offsets.Given as goal

abbrev pub invariant-loop-list : goal.invariant-loop-list
invariant-loop-list l = record {
  offset : l.offset ≡ 4 * length l.lists + length (bodies (take l.list-index l.lists));
  written : l.out.items ++ offsets_from l.offset (drop l.list-index l.lists) ≡ l.fn.out.items ++ offsets_from (4 * length l.lists) l.lists;
}
