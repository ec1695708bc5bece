use Rattle.std.proofs.Common.{◌≡◌, ◌+◌, drop, ◌==◌}
use Rattle.std.specs.List.{position_or_len}
use Rattle.elf_object.proofs.fault.name_len.Given as goal

abbrev pub invariant-loop-index : goal.invariant-loop-index
invariant-loop-index l = position_or_len (λ b. b == 0) l.rest ≡ l.index + position_or_len (λ b. b == 0) (drop l.index l.rest)
