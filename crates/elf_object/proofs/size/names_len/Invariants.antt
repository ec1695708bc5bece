use Rattle.std.specs.Prelude.{codes}
use Rattle.std.specs.List.{flat_map}
use Rattle.std.proofs.Common.{◌≡◌, ◌+◌, ◌^◌, ◌<◌, [], ◌∷◌, ◌++◌, length, drop}
use Rattle.elf_object.specs.Spelling.{text, names_of}
use Rattle.elf_object.proofs.size.names_len.Given as goal

abbrev pub invariant-loop-section : goal.invariant-loop-section
invariant-loop-section l = record {
  counted : l.len + length (flat_map text (names_of (drop l.section-index l.sections) ++ codes ".shstrtab" ∷ []))
      ≡ 11 + length (flat_map text (names_of l.sections ++ codes ".shstrtab" ∷ []));
  small : l.len < 2 ^ 31;
}
