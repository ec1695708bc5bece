use Rattle.std.proofs.Common.{◌≡◌, take}
use Rattle.pass_trait.specs.Sizes.{greatest}
use Rattle.pass_salvage.specs.Fresh.{item_numbers}
use Rattle.pass_salvage.proofs.fresh.greatest_in_items.Given as goal

abbrev pub invariant-loop-i : goal.invariant-loop-i
invariant-loop-i l = l.most ≡ greatest (item_numbers (take l.i-index l.items))
