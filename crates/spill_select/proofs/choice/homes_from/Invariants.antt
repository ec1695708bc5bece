use Rattle.std.proofs.Common.{◌≡◌, ◌++◌, ◌+◌, drop}
use Rattle.spill_rule.specs.Choice.{homes_from}
use Rattle.spill_select.proofs.choice.homes_from.Given as goal

abbrev pub invariant-loop-r : goal.invariant-loop-r
invariant-loop-r l = (l.homes ++ homes_from l.slot (drop l.r-index l.registers) ≡ homes_from l.initial.slot l.registers) ×
    (l.slot ≡ l.initial.slot + l.r-index)
