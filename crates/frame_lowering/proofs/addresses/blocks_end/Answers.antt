use Rattle.std.proofs.Common.{◌≡◌, ℕ, ◌+◌, List, drop, sym, ap, ◌∙◌}
use Rattle.mir_func.specs.declared.item.Item.{Item}
use Rattle.frame_rule.specs.Rule.{items_end, blocks_end}
use Rattle.frame_lowering.proofs.Ends.{blocks_turn, blocks_done}
use Rattle.frame_lowering.proofs.addresses.blocks_end.Goals as goal

pub loop-block-preserved : goal.loop-block-preserved
loop-block-preserved c =
    let own = c.args.own in
    let objects = c.args.objects.now in
    let blocks = c.args.blocks.now in
    let i = c.loop-block.block-index in
    let b = c.block-item.result in
    let most : c.items_end-greatest.result ≡ items_end own objects c.loop-block.greatest b.items =
    c.items_end-greatest.ensures ∙ ap (λ (items : List Item). items_end own objects c.loop-block.greatest items) c.as_slice.ensures in
    ap (λ (n : ℕ). blocks_end own objects n (drop (i + 1) blocks)) most
    ∙ sym (blocks_turn own objects c.loop-block.greatest i b blocks c.loop-block-test.true c.block-item.is) ∙ c.loop-block.invariant

pub returns : goal.returns
returns c =
    sym (blocks_done c.args.own c.args.objects.now c.loop-block.greatest c.loop-block.block-index c.args.blocks.now c.loop-block-test.false)
    ∙ c.loop-block.invariant
