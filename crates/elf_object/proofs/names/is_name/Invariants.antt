use Rattle.std.proofs.Common.{take}
use Rattle.elf_object.specs.Grammar.{IsName}
use Rattle.elf_object.proofs.names.is_name.Given as goal

abbrev pub invariant-loop-byte : goal.invariant-loop-byte
invariant-loop-byte l = IsName (take l.byte-index l.name)
