use Rattle.std.proofs.Common.{◌≡◌, ◌++◌, take}
use Rattle.std.specs.List.{flat_map}
use Rattle.dwarf_rnglists.specs.Ranges.{Are64Bit}
use Rattle.dwarf_rnglists.specs.Spelling.{entry}
use Rattle.dwarf_rnglists.proofs.section.push_list.Given as goal

abbrev pub invariant-loop-range : goal.invariant-loop-range
invariant-loop-range l = record {
  written : l.out.items ≡ l.fn.out.items ++ flat_map entry (take l.range-index l.ranges);
  wide : Are64Bit (take l.range-index l.ranges);
}
