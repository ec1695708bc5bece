use Rattle.std.proofs.Common.{◌∙◌}
use Rattle.scan_allocation.proofs.Walked.{walk_ends}
use Rattle.scan_allocation.proofs.walk.walk.Goals as goal

pub returns : goal.returns
returns c points are =
    c.in_ok-assign_all.ensures ∙ walk_ends c.args.blocked.now.masks.items c.args.order.now c.requires.physical points c.args.intervals.now are
