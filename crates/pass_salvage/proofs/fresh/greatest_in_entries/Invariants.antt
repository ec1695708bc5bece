use Rattle.std.proofs.Common.{◌≡◌, take}
use Rattle.pass_trait.specs.Sizes.{greatest}
use Rattle.pass_salvage.specs.Fresh.{entry_numbers}
use Rattle.pass_salvage.proofs.fresh.greatest_in_entries.Given as goal

abbrev pub invariant-loop-e : goal.invariant-loop-e
invariant-loop-e l = l.most ≡ greatest (entry_numbers (take l.e-index l.entries))
