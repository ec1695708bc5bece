use Rattle.std.proofs.Common.{◌≡◌, [], ◌∷◌, ◌++◌, length, drop}
use Rattle.elf_object.specs.Spelling.{contents}
use Rattle.elf_object.proofs.write.push_contents.Given as goal

abbrev pub invariant-loop-section : goal.invariant-loop-section
invariant-loop-section l =
    l.out.items ++ contents (length l.out.items) (drop l.section-index l.sections ++ l.last ∷ [])
    ≡ l.fn.out.items ++ contents (length l.fn.out.items) (l.sections ++ l.last ∷ [])
