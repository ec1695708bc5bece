use Rattle.std.proofs.Common.{◌≡◌, ℕ, ◌+◌, ◌<◌, List, [], ◌∷◌, ◌++◌, drop, length, Option, get_or, sym, ap, ◌∙◌, subst, append_assoc, arith}
use Rattle.scan_intervals.specs.declared.interval.LiveInterval.{LiveInterval}
use Rattle.scan_liveness.specs.declared.extents.Extent.{Extent}
use Rattle.scan_liveness.specs.Extents.{intervals_from}
use Rattle.scan_liveness.proofs.Counted.{pushed_all, pushed_one, pushed_none}
use Rattle.scan_liveness.proofs.intervals.push_all.Goals as goal

pub loop-k-init : goal.loop-k-init
loop-k-init c = pushed_none c.args.count c.args.extents.now c.args.intervals.now c.requires.none

pub loop-k-preserved : goal.loop-k-preserved
loop-k-preserved c =
    pushed_one c.args.count c.args.extents.now c.loop-k.k c.extent_at.result c.loop-k.intervals c.push_one.new.intervals (omega arith)
    c.extent_at.ensures c.in_ok-push_one.ensures c.loop-k.invariant

pub returns : goal.returns
returns c = pushed_all c.args.count c.args.extents.now c.loop-k.k c.loop-k.intervals (omega arith) c.loop-k.invariant
