use Rattle.std.proofs.Common.{◌<◌, ◌∙◌, sym, [], length, arith}
use Rattle.pass_liveness.proofs.Blocks.{get_at, get_or_any}
use Rattle.pass_liveness.proofs.Visits.{visited}
use Rattle.pass_liveness.proofs.names.SlotAndBlockNumbers.visit.Goals as goal

pub returns : goal.returns
returns c =
    let block = c.index-blocks-block.result in
    let starts = c.args.starts.now.items in
    let was = c.index_mut-start.result.now in
    let inside : c.args.block < length starts = omega (arith, c.requires.state.long, c.requires.known.inside) in
    let walked = rw (c.as_slice.ensures.value, c.as_slice-2.ensures, ← c.index-blocks-block.is, c.id_at-next.ensures) at c.live_from-live.ensures in
    visited c.args.self.now.slots c.args.self.now.blocks c.args.blocks.now starts c.args.block block was c.live_from-live.result c.unite.new.self c.unite.result
    c.requires.state.long c.requires.known.inside (get_at c.args.blocks.now c.args.block block c.requires.known.inside c.index-blocks-block.is)
    (get_or_any starts c.args.block [] was inside ∙ sym c.index_mut-start.ensures.value) walked c.unite.ensures.all c.unite.ensures.grown c.unite.ensures.same
    c.requires.state.known c.requires.state.found
