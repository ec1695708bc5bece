use Rattle.std.proofs.Common.{ℕ, ◌<◌, ◌≤◌, length, arith}
use Rattle.scan_liveness.proofs.Touched.{updated_begins, updated_goes_on, updated_ends}
use Rattle.scan_liveness.proofs.extents.step_live.Goals as goal

pub loop-k-init : goal.loop-k-init
loop-k-init c = updated_begins _ c.args.extents.now.items

pub loop-k-preserved : goal.loop-k-preserved
loop-k-preserved c = updated_goes_on c.loop-k.invariant (omega arith) _ c.step_near.ensures

pub returns-clause-long : goal.returns-clause-long
returns-clause-long c = c.loop-k.invariant.long

pub returns-clause-each : goal.returns-clause-each
returns-clause-each c k lt = updated_ends c.loop-k.invariant (omega arith) k lt
