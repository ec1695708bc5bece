use Rattle.std.proofs.Common.{◌≡◌, map}
use Rattle.elf_linkable.specs.Linkable.{content_section}
use Rattle.elf_linkable.proofs.object.contents.Given as goal

abbrev pub invariant-loop-section : goal.invariant-loop-section
invariant-loop-section l = l.made ≡ map content_section l.yielded
