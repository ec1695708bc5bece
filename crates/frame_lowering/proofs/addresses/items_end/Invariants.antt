use Rattle.std.proofs.Common.{◌≡◌, drop}
use Rattle.frame_rule.specs.Rule.{items_end}
use Rattle.frame_lowering.proofs.addresses.items_end.Given as goal

abbrev pub invariant-loop-item : goal.invariant-loop-item
invariant-loop-item l = items_end l.own l.objects l.greatest (drop l.item-index l.items) ≡ items_end l.own l.objects l.end l.items
