use Rattle.std.proofs.Common.{◌≡◌, ◌++◌, take}
use Rattle.pass_trait.specs.Nops.{numbers_in_items}
use Rattle.pass_trait.proofs.nops.push_numbers.Given as goal

abbrev pub invariant-loop-i : goal.invariant-loop-i
invariant-loop-i l = l.numbers.items ≡ l.initial.numbers.items ++ numbers_in_items (take l.i-index l.items)
