use Rattle.std.proofs.Common.{[], ◌∙◌, arith}
use Rattle.std.proofs.lemmas.List.{get_or_default}
use Rattle.dataflow.proofs.Preds.{preds_begin, preds_more, preds_all}
use Rattle.dataflow.proofs.graph.predecessors.Goals as goal

pub loop-block-init : goal.loop-block-init
loop-block-init c = preds_begin _ _ c.in_ok-preds.ensures.long c.in_ok-preds.ensures.none

pub note-requires : goal.note-requires
note-requires c =
    rw (c.as_slice.ensures ∙ c.index-successors-block.is, c.loop-block.invariant.long)
    (c.requires.graph c.loop-block.block c.index-successors-block.result c.loop-block-test.true)

pub loop-block-preserved : goal.loop-block-preserved
loop-block-preserved c =
    let at = c.index-successors-block.is ∙ get_or_default c.args.successors.now c.loop-block.block _ [] c.loop-block-test.true in
    preds_more _ _ c.loop-block.preds.items _ c.as_slice.result.now (c.as_slice.ensures ∙ at) c.in_ok-note.ensures.long c.in_ok-note.ensures.noted
    c.loop-block.invariant

pub returns : goal.returns
returns c = preds_all _ _ _ (omega arith) c.loop-block.invariant
