use Rattle.std.specs.Prelude.{All}
use Rattle.dwarf_line.specs.Table.{HasRange}
use Rattle.std.proofs.Common.{◌≡◌, ◌++◌, take}
use Rattle.std.specs.List.{flat_map}
use Rattle.dwarf_line.specs.Spelling.{sequence}
use Rattle.dwarf_line.proofs.write.push_program.Given as goal

abbrev pub invariant-loop-sequence : goal.invariant-loop-sequence
invariant-loop-sequence l = record {
  written : l.out.items ≡ l.fn.out.items ++ flat_map sequence (take l.sequence-index l.sequences);
  ranges : All HasRange (take l.sequence-index l.sequences);
}
