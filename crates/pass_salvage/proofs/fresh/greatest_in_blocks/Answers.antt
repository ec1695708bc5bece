use Rattle.std.proofs.Common.{max, ap, sym, ◌∙◌}
use Rattle.pass_trait.specs.Sizes.{greatest}
use Rattle.pass_salvage.specs.Fresh.{item_numbers}
use Rattle.pass_salvage.proofs.Greatest.{greatest_block_turn}
use Rattle.pass_salvage.proofs.fresh.greatest_in_blocks.Goals as goal

pub loop-b-preserved : goal.loop-b-preserved
loop-b-preserved c =
    let now = c.loop-b.invariant in
    let more = c.greatest_in_items.ensures ∙ ap (λ xs. greatest (item_numbers xs)) c.as_slice.ensures in
    c.greater-most.ensures ∙ (λ i. max (now i) (more i)) ∙
    sym (greatest_block_turn c.args.blocks.now c.loop-b.b-index c.b-item.result c.loop-b-test.true c.b-item.is)
