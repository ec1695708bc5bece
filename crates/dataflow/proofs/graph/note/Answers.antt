use Rattle.std.proofs.Common.{arith}
use Rattle.dataflow.proofs.Preds.{noting_more, noting_all}
use Rattle.dataflow.proofs.graph.note.Goals as goal

pub loop-c-preserved : goal.loop-c-preserved
loop-c-preserved c =
    let inside = c.requires c.loop-c.c-index 0 c.loop-c-test.true in
    rw c.in_ok-push.ensures.ok
    (noting_more c.args.block c.args.ways.now c.loop-c.c-index c.args.preds.now.items c.loop-c.preds.items c.index_mut-known.result.now
    (omega (arith, inside, c.loop-c.invariant.long)) c.index_mut-known.ensures.value c.loop-c.invariant)

pub returns-clause-noted : goal.returns-clause-noted
returns-clause-noted c = noting_all _ _ _ _ _ (omega arith) c.loop-c.invariant
