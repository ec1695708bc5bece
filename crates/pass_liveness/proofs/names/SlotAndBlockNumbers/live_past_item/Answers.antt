use Rattle.std.proofs.Common.{◌≡◌, ◌∙◌, ap, sym, length, arith}
use Rattle.mir_func.specs.declared.block.Block.{Block}
use Rattle.mir_func.specs.declared.item.Item.{Item}
use Rattle.pass_liveness.specs.Liveness.{items_at}
use Rattle.pass_liveness.proofs.Blocks.{items_at_is, get_at}
use Rattle.pass_liveness.proofs.names.SlotAndBlockNumbers.live_past_item.Goals as goal

pub live_past_in-requires-clause-item : goal.live_past_in-requires-clause-item
live_past_in-requires-clause-item c =
    let block = c.index-blocks-block.result in
    let at = items_at_is c.args.blocks.now c.args.block block (get_at c.args.blocks.now c.args.block block c.requires.known.inside c.index-blocks-block.is) in
    let same : c.as_slice.result.now ≡ items_at c.args.blocks.now c.args.block =
    c.as_slice.ensures ∙ (ap (λ (b : Block). b.items) (sym c.index-blocks-block.is) ∙ sym at) in
    omega (arith, ap (length {A = Item}) same, c.requires.item)

pub returns : goal.returns
returns c =
    let block = c.index-blocks-block.result in
    let at = items_at_is c.args.blocks.now c.args.block block (get_at c.args.blocks.now c.args.block block c.requires.known.inside c.index-blocks-block.is) in
    let same : c.as_slice.result.now ≡ items_at c.args.blocks.now c.args.block =
    c.as_slice.ensures ∙ (ap (λ (b : Block). b.items) (sym c.index-blocks-block.is) ∙ sym at) in
    rw (same, c.id_at-next.ensures) at c.live_past_in.ensures
