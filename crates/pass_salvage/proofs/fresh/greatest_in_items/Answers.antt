use Rattle.std.proofs.Common.{max, sym, ◌∙◌}
use Rattle.pass_trait.specs.Sizes.{numbers_of}
use Rattle.pass_salvage.proofs.Greatest.{greatest_turn}
use Rattle.pass_salvage.proofs.fresh.greatest_in_items.Goals as goal

pub loop-i-preserved : goal.loop-i-preserved
loop-i-preserved c =
    let now = c.loop-i.invariant in
    let more = c.number_in.ensures in
    c.greater-most.ensures ∙ (λ i. max (now i) (more i)) ∙
    sym (greatest_turn (λ i. numbers_of i.kind) c.args.items.now c.loop-i.i-index c.i-item.result c.loop-i-test.true c.i-item.is)
