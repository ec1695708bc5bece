use Rattle.std.proofs.Common.{◌≡◌, ◌<◌, ℕ, List, length, set, subst, sym, ap, ◌∙◌}
use Rattle.mir_func.specs.declared.block.Block.{Block}
use Rattle.fold_rule_proof.proofs.pass_trait.InPlaceMap.{map_turn}
use Rattle.fold_undef.specs.declared.kill.Kill.{Kill}
use Rattle.fold_undef.specs.steps.Gathered.{kills_at, with_kills_of}
use Rattle.fold_undef.proofs.put.put_all.Goals as goal

pub loop-b-preserved : goal.loop-b-preserved
loop-b-preserved c =
    let kills : ℕ → List Kill = kills_at c.args.kills.now in
    let xs : List Block = c.args.blocks.now.items in
    let made : Block = record { id = c.b.inside.0.0; items = c.put_at.new.items.items; source_end = c.b.inside.0.1.1.0 } in
    let b : made ≡ with_kills_of kills c.b-item.result =
    (λ i. record { id = c.b.inside.0.0; items = c.in_ok-put_at.ensures i; source_end = c.b.inside.0.1.1.0 }) ∙
    ap (with_kills_of kills) (c.b.view_is ∙ sym c.b-item.is) in
    let turn : set c.loop-b.b-items c.loop-b.b-index (with_kills_of kills c.b-item.result) ≡ _ =
    map_turn (with_kills_of kills) xs c.loop-b.b-items c.loop-b.b-index c.b-item.result
    (subst (λ (zs : List Block). c.loop-b.b-index < length zs) c.deref_mut-b-items.ensures.value c.loop-b-test.true) c.loop-b.invariant c.b-item.is in
    ap (λ (z : Block). set c.loop-b.b-items c.loop-b.b-index z) b ∙ turn
