use Rattle.std.proofs.Common.{◌≡◌, take}
use Rattle.pass_trait.specs.Nops.{nop_numbers}
use Rattle.pass_trait.proofs.nops.nop_numbers.Given as goal

abbrev pub invariant-loop-b : goal.invariant-loop-b
invariant-loop-b l = l.numbers.items ≡ nop_numbers (take l.b-index l.blocks)
