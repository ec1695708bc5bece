use Rattle.std.proofs.Common.{◌∙◌, [], sym, ap, arith}
use Rattle.pass_liveness.specs.Index.{index_in}
use Rattle.pass_liveness.proofs.Blocks.{get_or_any}
use Rattle.dce_stale.proofs.Handing.{handed_nowhere, handed_past, handed_united}
use Rattle.scan_stale.proofs.walk.hand_to.Goals as goal

pub returns-in-None : goal.returns-in-None
returns-in-None c = handed_nowhere c.args.starts.now.items c.args.n c.args.set.now c.find.result
    (c.find.ensures ∙ ap (index_in c.args.names.now.blocks) c.number.ensures) c.in-None.is

pub returns-then-index-len : goal.returns-then-index-len
returns-then-index-len c = handed_united c.args.names.now.slots c.args.names.now.blocks c.args.starts.now.items c.args.n
    c.in-Some.index c.args.set.now c.index_mut.result.now c.unite.new.self c.unite.result
    (sym (c.in-Some.ensures ∙ ap (index_in c.args.names.now.blocks) c.number.ensures)) (omega arith)
    (get_or_any c.args.starts.now.items c.in-Some.index [] c.index_mut.result.now (omega arith) ∙ sym c.index_mut.ensures.value) c.unite.ensures.all
    c.unite.ensures.grown c.unite.ensures.same

pub returns-else-index-len : goal.returns-else-index-len
returns-else-index-len c = handed_past c.args.starts.now.items c.args.n c.args.set.now c.in-Some.index
    (c.in-Some.ensures ∙ ap (index_in c.args.names.now.blocks) c.number.ensures) c.requires (omega arith)
