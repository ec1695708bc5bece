use Rattle.std.proofs.Common.{◌≡◌, ◌++◌, drop, take}
use Rattle.std.specs.Prelude.{All}
use Rattle.dwarf_loclists.specs.declared.range.Part.{Part}
use Rattle.dwarf_loclists.specs.Ranges.{ArePieces, HasWord}
use Rattle.dwarf_loclists.specs.Spelling.{composite_location}
use Rattle.dwarf_loclists.proofs.location.push_pieces.Given as goal

abbrev pub invariant-loop-part : goal.invariant-loop-part
invariant-loop-part l = record {
  rest : ArePieces l.from (drop l.part-index l.parts);
  written : l.out.items ++ composite_location l.from (drop l.part-index l.parts) ≡ l.fn.out.items ++ composite_location 0 l.parts;
  wide : All (λ (p : Part). HasWord p.place) (take l.part-index l.parts);
}
