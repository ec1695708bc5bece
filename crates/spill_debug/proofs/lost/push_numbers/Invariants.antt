use Rattle.std.proofs.Common.{◌≡◌, ◌++◌, take}
use Rattle.spill_debug.specs.Lost.{numbers_silenced}
use Rattle.spill_debug.proofs.lost.push_numbers.Given as goal

abbrev pub invariant-loop-i : goal.invariant-loop-i
invariant-loop-i l = l.numbers.items ≡ l.initial.numbers.items ++ numbers_silenced l.s (take l.i-index l.items)
