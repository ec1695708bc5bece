use Rattle.std.proofs.Common.{◌≡◌, ◌+◌, ◌^◌, ◌<◌, length, drop}
use Rattle.elf_object.specs.Spelling.{contents}
use Rattle.elf_object.proofs.size.contents_end.Given as goal

abbrev pub invariant-loop-section : goal.invariant-loop-section
invariant-loop-section l = record {
  placed : l.at + length (contents l.at (drop l.section-index l.sections)) ≡ 64 + length (contents 64 l.sections);
  small : l.at < 2 ^ 31;
}
