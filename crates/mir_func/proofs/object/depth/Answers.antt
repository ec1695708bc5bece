use Rattle.mir_func.proofs.Fixed.{depth_below, depth_above}
use Rattle.mir_func.proofs.object.depth.Goals as goal

pub returns-then-offset-lt0-clause-value : goal.returns-then-offset-lt0-clause-value
returns-then-offset-lt0-clause-value c =
    depth_below c.args.offset c.unsigned_abs.result c.ranges.offset c.if-offset-lt0.true c.unsigned_abs.ensures.value

pub returns-else-offset-lt0-clause-value : goal.returns-else-offset-lt0-clause-value
returns-else-offset-lt0-clause-value c = depth_above c.args.offset c.ranges.offset c.if-offset-lt0.false
