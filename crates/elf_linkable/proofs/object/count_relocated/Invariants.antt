use Rattle.std.specs.Prelude.{count_by}
use Rattle.std.proofs.Common.{◌≡◌, ◌≤◌, take}
use Rattle.elf_linkable.specs.Linkable.{is_relocated}
use Rattle.elf_linkable.proofs.object.count_relocated.Given as goal

abbrev pub invariant-loop-section : goal.invariant-loop-section
invariant-loop-section l = record {
  exact : l.count ≡ count_by is_relocated (take l.section-index l.sections);
  few : l.count ≤ l.section-index;
}
