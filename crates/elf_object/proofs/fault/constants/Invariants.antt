use Rattle.std.proofs.Common.{◌≡◌, ◌+◌, ◌≤◌, length, drop}
use Rattle.elf_object.specs.FirstFault.{constants}
use Rattle.elf_object.specs.steps.Told.{total}
use Rattle.elf_object.proofs.fault.constants.Given as goal

abbrev pub invariant-loop-size : goal.invariant-loop-size
invariant-loop-size l = record {
  so_far : constants l.place (drop l.size-index l.sizes) l.left l.rest ≡ constants l.at l.sizes l.right (drop l.at l.bytes);
  sizes : total (drop l.size-index l.sizes) ≤ length l.left;
  place : l.place + length l.rest ≡ length l.bytes;
}
