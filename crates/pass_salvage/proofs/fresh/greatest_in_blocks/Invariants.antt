use Rattle.std.proofs.Common.{◌≡◌, take}
use Rattle.pass_trait.specs.Sizes.{greatest}
use Rattle.pass_salvage.specs.Fresh.{block_numbers}
use Rattle.pass_salvage.proofs.fresh.greatest_in_blocks.Given as goal

abbrev pub invariant-loop-b : goal.invariant-loop-b
invariant-loop-b l = l.most ≡ greatest (block_numbers (take l.b-index l.blocks))
