use Rattle.std.proofs.Common.{◌≡◌, ◌++◌, drop}
use Rattle.dwarf_loclists.specs.Ranges.{ArePieces}
use Rattle.sized_lists.specs.Spelling.{composite_location}
use Rattle.sized_lists.proofs.location.push_pieces.Given as goal

abbrev pub invariant-loop-part : goal.invariant-loop-part
invariant-loop-part l = record {
  rest : ArePieces l.from (drop l.part-index l.parts);
  written : l.out.items ++ composite_location l.size l.from (drop l.part-index l.parts) ≡ l.fn.out.items ++ composite_location l.size 0 l.parts;
}
