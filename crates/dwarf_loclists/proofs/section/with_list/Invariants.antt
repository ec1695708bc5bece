use Rattle.std.proofs.Common.{◌≡◌, ◌≤◌, ◌+◌, ◌*◌, take, length}
use Rattle.std.specs.List.{flat_map}
use Rattle.dwarf_loclists.specs.Spelling.{entry}
use Rattle.dwarf_loclists.proofs.SpellingLemmas.{places_in}
use Rattle.dwarf_loclists.proofs.section.with_list.Given as goal

abbrev pub invariant-loop-range : goal.invariant-loop-range
invariant-loop-range l = record {
  counted : l.size ≡ l.before + 5 + length (flat_map entry (take l.range-index l.ranges));
  grown : l.size ≤ l.before + 5 + 65 * places_in (take l.range-index l.ranges);
}
