use Rattle.std.proofs.Common.{◌≡◌, ◌++◌, drop}
use Rattle.listing_meaning.specs.Listing.{implicits}
use Rattle.listing_function.proofs.branch.implicits.Given as goal

abbrev pub invariant-loop-operand : goal.invariant-loop-operand
invariant-loop-operand l = l.made ++ implicits (drop l.operand-index l.operands) ≡ implicits l.operands
