use Rattle.std.proofs.Common.{take}
use Rattle.pass_salvage.specs.Above.{IsIndexOf}
use Rattle.pass_salvage.proofs.above.Above.of.Given as goal

abbrev pub invariant-loop-at : goal.invariant-loop-at
invariant-loop-at l = IsIndexOf l.index l.subs (take l.at l.above)
