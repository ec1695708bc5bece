use Rattle.std.specs.Prelude.{All, codes}
use Rattle.std.specs.List.{flat_map}
use Rattle.std.proofs.Common.{◌≡◌, ◌+◌, [], ◌∷◌, ◌++◌, length, take, drop}
use Rattle.elf_object.specs.Spelling.{text, names_of, contents, headers}
use Rattle.elf_object.specs.Grammar.{FitsHeader}
use Rattle.elf_object.proofs.write.push_headers.Given as goal

abbrev pub invariant-loop-section : goal.invariant-loop-section
invariant-loop-section l = record {
  written : l.out.items ++ headers l.name_at l.at (drop l.section-index l.sections ++ l.last ∷ [])
      ≡ l.fn.out.items ++ headers 1 64 (l.sections ++ l.last ∷ []);
  placed : l.at + length (contents l.at (drop l.section-index l.sections ++ l.last ∷ [])) ≡ 64 + length (contents 64 (l.sections ++ l.last ∷ []));
  named : l.name_at + length (flat_map text (names_of (drop l.section-index l.sections) ++ codes ".shstrtab" ∷ []))
      ≡ 1 + length (flat_map text (names_of l.sections ++ codes ".shstrtab" ∷ []));
  fits : All FitsHeader (take l.section-index l.sections);
}
