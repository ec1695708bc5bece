use Rattle.std.proofs.Common.{◌∙◌, arith}
use Rattle.std.specs.Prelude.{None}
use Rattle.std.proofs.Math.ListN.{length-set}
use Rattle.value_solver.proofs.Clearing.{cleared_more, cleared_all}
use Rattle.value_solver.proofs.meet.clear.Goals as goal

pub loop-i-preserved : goal.loop-i-preserved
loop-i-preserved c =
    let l = c.loop-i in
    record {
      count = length-set l.firsts.items l.i None ∙ l.invariant.count;
      empty = cleared_more l.firsts.items l.i l.invariant.empty (omega (arith, c.loop-i-test.true, l.invariant.count));
    }

pub returns : goal.returns
returns c =
    let l = c.loop-i in
    cleared_all l.firsts.items l.i l.invariant.empty (omega (arith, c.loop-i-test.false, l.invariant.count))
