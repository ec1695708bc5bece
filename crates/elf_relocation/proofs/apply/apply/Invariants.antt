use Rattle.std.specs.Prelude.{All}
use Rattle.std.proofs.Common.{◌≡◌, take, drop}
use Rattle.elf_relocation.specs.Applied.{applied, IsInRange}
use Rattle.elf_relocation.proofs.apply.apply.Given as goal

abbrev pub invariant-loop-index : goal.invariant-loop-index
invariant-loop-index l = record {
  bytes : applied l.base l.addresses (drop l.index l.relocations) l.bytes ≡ applied l.base l.addresses l.relocations l.fn.bytes;
  before : All (IsInRange l.base l.addresses) (take l.index l.relocations);
}
