use Rattle.std.specs.Prelude.{codes}
use Rattle.std.specs.List.{flat_map}
use Rattle.std.proofs.Common.{◌≡◌, [], ◌∷◌, ◌++◌, drop}
use Rattle.elf_object.specs.Spelling.{text, names_of, string_table}
use Rattle.elf_object.proofs.write.names_table.Given as goal

abbrev pub invariant-loop-section : goal.invariant-loop-section
invariant-loop-section l =
    l.table.items ++ flat_map text (names_of (drop l.section-index l.sections) ++ codes ".shstrtab" ∷ [])
    ≡ string_table (names_of l.sections ++ codes ".shstrtab" ∷ [])
