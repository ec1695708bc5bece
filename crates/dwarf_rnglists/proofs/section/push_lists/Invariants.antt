use Rattle.std.proofs.Common.{◌≡◌, ◌++◌, take}
use Rattle.std.specs.Prelude.{All}
use Rattle.dwarf_rnglists.specs.Ranges.{Are64Bit}
use Rattle.dwarf_rnglists.specs.Spelling.{bodies}
use Rattle.dwarf_rnglists.proofs.section.push_lists.Given as goal

abbrev pub invariant-loop-list : goal.invariant-loop-list
invariant-loop-list l = record {
  written : l.out.items ≡ l.fn.out.items ++ bodies (take l.list-index l.lists);
  wide : All Are64Bit (take l.list-index l.lists);
}
