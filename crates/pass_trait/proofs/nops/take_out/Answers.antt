use Rattle.std.proofs.Common.{◌≡◌, ◌<◌, List, length, set, subst, sym, ap, ◌∙◌, false}
use Rattle.sem_simulation.specs.mir_func.declared.block.Block.{Block}
use Rattle.pass_trait.specs.Nops.{thinned_block}
use Rattle.pass_trait.proofs.InPlaceMap.{map_turn}
use Rattle.pass_trait.proofs.nops.take_out.Goals as goal

pub loop-b-preserved : goal.loop-b-preserved
loop-b-preserved c =
    let xs : List Block = c.args.blocks.now.items in
    let made : Block = record { id = c.b.inside.0.0; items = c.take_out_of.new.items.items; source_end = c.b.inside.0.1.1.0 } in
    let b : made ≡ thinned_block false c.b-item.result =
    (λ i. record { id = c.b.inside.0.0; items = c.take_out_of.ensures i; source_end = c.b.inside.0.1.1.0 }) ∙
    ap (thinned_block false) (c.b.view_is ∙ sym c.b-item.is) in
    let turn : set c.loop-b.b-items c.loop-b.b-index (thinned_block false c.b-item.result) ≡ _ =
    map_turn (thinned_block false) xs c.loop-b.b-items c.loop-b.b-index c.b-item.result
    (subst (λ (zs : List Block). c.loop-b.b-index < length zs) c.deref_mut-b-items.ensures.value c.loop-b-test.true) c.loop-b.invariant c.b-item.is in
    ap (λ (z : Block). set c.loop-b.b-items c.loop-b.b-index z) b ∙ turn
