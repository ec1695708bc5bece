use Rattle.std.proofs.Common.{◌≡◌, max, drop}
use Rattle.spill_rule.specs.pass_trait.Sizes.{greatest}
use Rattle.spill_select.proofs.choice.greatest.Given as goal

abbrev pub invariant-loop-slot : goal.invariant-loop-slot
invariant-loop-slot l = max l.most (greatest (drop l.slot-index l.slots)) ≡ greatest l.slots
