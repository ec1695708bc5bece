use Rattle.std.proofs.Common.{◌+◌}
use Rattle.inline_instances.specs.steps.Open.{rank}
use Rattle.inline_instances.proofs.Shifts.{IsMoving}
use Rattle.inline_instances.proofs.ranges.OpenRanges.shift.Given as goal

abbrev pub invariant-indices : goal.invariant-indices
invariant-indices l = IsMoving l.instances l.fn.left l.fn.entered l.address l.fn.self l.self l.inside l.reached

abbrev pub decreases-indices : goal.decreases-indices
decreases-indices l = rank l.inside + rank l.reached
