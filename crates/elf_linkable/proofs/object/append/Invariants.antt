use Rattle.std.proofs.Common.{◌≡◌, ◌++◌}
use Rattle.elf_linkable.proofs.object.append.Given as goal

abbrev pub invariant-loop-section : goal.invariant-loop-section
invariant-loop-section l = l.all ≡ l.fn.all ++ l.yielded
