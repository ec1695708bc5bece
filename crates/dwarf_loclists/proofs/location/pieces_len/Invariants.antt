use Rattle.std.proofs.Common.{◌≡◌, ◌+◌, ◌*◌, ◌^◌, ◌<◌, ◌≤◌, length, drop}
use Rattle.dwarf_loclists.specs.Ranges.{ArePieces}
use Rattle.dwarf_loclists.specs.Spelling.{composite_location}
use Rattle.dwarf_loclists.proofs.location.pieces_len.Given as goal

abbrev pub invariant-loop-part : goal.invariant-loop-part
invariant-loop-part l = record {
  rest : ArePieces l.from (drop l.part-index l.parts);
  counted : l.len + length (composite_location l.from (drop l.part-index l.parts)) ≡ length (composite_location 0 l.parts);
  fits : l.from < 2 ^ 32;
  each : l.part-index ≤ l.from;
  within : l.len ≤ 34 * l.part-index;
}
