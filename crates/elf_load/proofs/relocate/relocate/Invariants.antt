use Rattle.std.specs.Prelude.{All}
use Rattle.std.proofs.Common.{◌≡◌, take, drop}
use Rattle.elf_load.specs.Load.{IsReached}
use Rattle.elf_load.specs.steps.CallWords.{relocated}
use Rattle.elf_load.proofs.relocate.relocate.Given as goal

abbrev pub invariant-loop-index : goal.invariant-loop-index
invariant-loop-index l = record {
  text : relocated l.base l.addresses (drop l.index l.relocations) l.text ≡ relocated l.base l.addresses l.relocations l.fn.text;
  before : All (IsReached l.base l.addresses) (take l.index l.relocations);
}
