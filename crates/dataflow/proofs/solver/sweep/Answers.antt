use Rattle.std.proofs.Common.{arith}
use Rattle.dataflow.proofs.Sweeps.{sweep_begins, sweep_more, sweep_ends}
use Rattle.dataflow.proofs.solver.sweep.Goals as goal

pub loop-block-init : goal.loop-block-init
loop-block-init g c = sweep_begins _ _ _ _ _ c.requires.valid

pub loop-block-preserved : goal.loop-block-preserved
loop-block-preserved g c =
    rw c.either-changed.ensures (sweep_more _ _ _ _ _ _ _ _ _ _ c.loop-block.invariant c.in_ok-visited.ensures)

pub returns : goal.returns
returns g c = sweep_ends _ _ _ _ _ _ _ _ (omega arith) c.loop-block.invariant
