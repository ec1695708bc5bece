use Rattle.std.proofs.Common.{◌≡◌, ◌+◌, ◌*◌, ◌++◌, take, drop, length}
use Rattle.sized_lists.specs.Spelling.{bodies, offsets_from}
use Rattle.sized_lists.proofs.section.write_sized_lists.Given as goal

abbrev pub invariant-loop-list : goal.invariant-loop-list
invariant-loop-list l = record {
  offsets : l.offsets.items ++ offsets_from (4 * length l.lists + length l.bodies.items) (drop l.list-index l.lists)
      ≡ offsets_from (4 * length l.lists) l.lists;
  bodies : l.bodies.items ≡ bodies (take l.list-index l.lists);
}
