use Rattle.std.proofs.Common.{◌+◌, length}
use Rattle.graph_spread.specs.Spread.{count_out}
use Rattle.graph_spread.proofs.Walk.{Spreading}
use Rattle.graph_spread.proofs.spread.spread.Given as goal

abbrev pub invariant-walk : goal.invariant-walk
invariant-walk g l = Spreading l.ways (g.C.Crossing.passes l.crossing) l.sources l.reached.items l.waiting.items

abbrev pub decreases-walk : goal.decreases-walk
decreases-walk g l = count_out l.reached.items + length l.waiting.items
