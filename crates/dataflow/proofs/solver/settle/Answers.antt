use Rattle.std.proofs.Common.{◌+◌, ◌≤◌, ℕ, List, sym, subst, arith}
use Rattle.dataflow.specs.Graph.{IsOrder}
use Rattle.dataflow.proofs.Sweeps.{solving_begins, solving_more, solving_ends}
use Rattle.dataflow.proofs.solver.settle.Goals as goal

pub sweep-requires-clause-order : goal.sweep-requires-clause-order
sweep-requires-clause-order g c = rw c.as_slice.ensures.value c.loop-sweeps.invariant.order

pub loop-sweeps-init : goal.loop-sweeps-init
loop-sweeps-init g c = record { solving = solving_begins _ _ _ _ c.requires.valid; order = c.requires.order }

pub loop-sweeps-preserved : goal.loop-sweeps-preserved
loop-sweeps-preserved g c =
    let more : c.saturating_add-sweeps.result ≤ c.loop-sweeps.sweeps + 1 = omega (arith, c.saturating_add-sweeps.ensures) in record {
      solving = solving_more _ _ _ _ c.loop-sweeps.state _ _ c.loop-sweeps.sweeps _ _ c.if-branch.true more c.loop-sweeps.invariant.solving
          c.in_ok-sweep.ensures;
      order = c.turn_round.ensures _ c.loop-sweeps.invariant.order;
    }

pub loop-sweeps-smaller : goal.loop-sweeps-smaller
loop-sweeps-smaller g c = c.in_ok-sweep.ensures.lower c.if-branch.true

pub returns : goal.returns
returns g c =
    let order = subst (λ (z : List ℕ). IsOrder (g.A.Analysis.blocks c.args.analysis.now) z) (sym c.as_slice.ensures.value) c.loop-sweeps.invariant.order in
    solving_ends _ _ _ _ _ c.loop-sweeps.state _ _ c.loop-sweeps.sweeps _ c.if-branch.false order c.loop-sweeps.invariant.solving c.in_ok-sweep.ensures
