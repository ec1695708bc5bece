use Rattle.std.proofs.Common.{◌≡◌, take}
use Rattle.spill_debug.specs.Lost.{all_numbers_silenced}
use Rattle.spill_debug.proofs.lost.all_numbers_silenced.Given as goal

abbrev pub invariant-loop-b : goal.invariant-loop-b
invariant-loop-b l = l.numbers.items ≡ all_numbers_silenced l.s (take l.b-index l.blocks)
