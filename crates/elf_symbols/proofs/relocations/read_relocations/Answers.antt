use Rattle.std.proofs.Common.{List, arith, sym, subst, ◌∙◌}
use Rattle.elf_object.specs.declared.relocations.Relocation.{Relocation}
use Rattle.elf_object.specs.Relocations.{AreRelocations}
use Rattle.elf_object.proofs.OneTable.{one_relocations}
use Rattle.elf_object.proofs.ObjectRight.{some_none}
use Rattle.elf_symbols.proofs.RelocationLemmas.{right_relocations, no_part}
use Rattle.elf_symbols.proofs.relocations.read_relocations.Goals as goal

pub returns-in-Some-clause-only : goal.returns-in-Some-clause-only
returns-in-Some-clause-only c = λ rs are.
    absurd (some_none c.in-Some.at _ (sym c.part_at.ensures ∙ c.in-Some.is) (no_part c.args.bytes.now rs are))

pub returns-in_ok-some_relocations-in-None-clause-relocations : goal.returns-in_ok-some_relocations-in-None-clause-relocations
returns-in_ok-some_relocations-in-None-clause-relocations c =
    subst (λ (rs : List Relocation). AreRelocations rs c.args.bytes.now) (sym c.in_ok-some_relocations-in-None.ensures)
    (right_relocations c.args.bytes.now (λ i. omega (arith, c.type_inv.bytes i)) (sym c.part_at.ensures ∙ c.in-None.is))

pub returns-in_ok-some_relocations-in-None-clause-only : goal.returns-in_ok-some_relocations-in-None-clause-only
returns-in_ok-some_relocations-in-None-clause-only c = λ rs are.
    one_relocations c.args.bytes.now _ rs (returns-in_ok-some_relocations-in-None-clause-relocations c) are
