use Rattle.std.proofs.Common.{◌≡◌, ◌++◌, take}
use Rattle.spill_code.specs.Rewrite.{spilled_items}
use Rattle.spill_code.proofs.rewrite.push_items.Given as goal

abbrev pub invariant-loop-i : goal.invariant-loop-i
invariant-loop-i l = l.made ≡ l.initial.made ++ spilled_items l.s (take l.i-index l.items)
