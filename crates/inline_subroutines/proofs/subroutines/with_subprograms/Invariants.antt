use Rattle.std.proofs.Common.{[], take}
use Rattle.inline_subroutines.specs.Subroutines.{AreOfInstances}
use Rattle.inline_subroutines.specs.steps.Known.{AreSubprograms}
use Rattle.inline_subroutines.proofs.subroutines.with_subprograms.Given as goal

abbrev pub invariant-loop-index : goal.invariant-loop-index
invariant-loop-index l = record {
  made : AreOfInstances l.meta (take l.index l.instances) (take l.index l.ranges) l.made;
  scopes : AreSubprograms l.meta [] l.subprograms.known;
}
