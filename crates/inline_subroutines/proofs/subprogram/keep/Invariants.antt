use Rattle.std.proofs.Common.{take}
use Rattle.inline_subroutines.specs.steps.Known.{AreKept}
use Rattle.inline_subroutines.proofs.subprogram.keep.Given as goal

abbrev pub invariant-loop-scope : goal.invariant-loop-scope
invariant-loop-scope l = AreKept (take l.scope-index l.way) l.found l.fn.known l.known
