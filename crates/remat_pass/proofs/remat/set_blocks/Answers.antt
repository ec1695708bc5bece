use Rattle.std.proofs.Common.{◌≡◌, ◌<◌, ◌≤◌, List, All, length, set, get_or, subst, sym, ap, ◌∙◌, rules, arith}
use Rattle.mir_func.specs.declared.block.Block.{Block}
use Rattle.mir_func.specs.declared.item.Item.{Item}
use Rattle.mir_func.specs.Sound.{HasForm}
use Rattle.pass_trait.proofs.InPlaceMap.{map_turn}
use Rattle.remat_pass.specs.Remat.{set_block}
use Rattle.remat_pass.specs.Partly.{AreItemsSet, AreBlocksSet}
use Rattle.remat_pass.proofs.InPlaceMap.{map_at}
use Rattle.remat_pass.proofs.Partly.{each_more, blocks_done, block_in_part, blocks_back}
use Rattle.remat_pass.proofs.remat.set_blocks.Goals as goal

pub loop-b-preserved : goal.loop-b-preserved
loop-b-preserved c =
    let xs : List Block = c.args.blocks.now.items in
    let made : Block = record { id = c.b.inside.0.0; items = c.set_items.new.items.items; source_end = c.b.inside.0.1.1.0 } in
    let b : made ≡ set_block c.b-item.result =
    (λ i. record { id = c.b.inside.0.0; items = c.in_ok-set_items.ensures.code i; source_end = c.b.inside.0.1.1.0 }) ∙
    ap set_block (c.b.view_is ∙ sym c.b-item.is) in
    let inside = subst (λ (zs : List Block). c.loop-b.b-index < length zs) c.deref_mut-b-items.ensures.value c.loop-b-test.true in
    let turn : set c.loop-b.b-items c.loop-b.b-index (set_block c.b-item.result) ≡ _ =
    map_turn set_block xs c.loop-b.b-items c.loop-b.b-index c.b-item.result inside c.loop-b.invariant.code c.b-item.is in
    record {
      code = ap (λ (z : Block). set c.loop-b.b-items c.loop-b.b-index z) b ∙ turn;
      forms = each_more (λ (d : Block). All (λ (i : Item). HasForm i.kind) d.items) xs c.loop-b.b-index c.b-item.result inside
          (map_at set_block xs c.loop-b.b-items c.loop-b.b-index c.b-item.result inside c.loop-b.invariant.code c.b-item.is)
          (subst (λ (d : Block). All (λ (i : Item). HasForm i.kind) d.items) (c.b.view_is ∙ sym c.b-item.is) c.in_ok-set_items.ensures.forms)
          c.loop-b.invariant.forms;
    }

pub returns-in_err-set_items-clause-each : goal.returns-in_err-set_items-clause-each
returns-in_err-set_items-clause-each c =
    let xs : List Block = c.args.blocks.now.items in
    let n = c.loop-b.b-index in
    let made : Block = record { id = c.b.inside.0.0; items = c.set_items.new.items.items; source_end = c.b.inside.0.1.1.0 } in
    let is = c.b.view_is ∙ sym c.b-item.is in
    let inside = subst (λ (zs : List Block). n < length zs) c.deref_mut-b-items.ensures.value c.loop-b-test.true in
    let long : length c.args.blocks.now.items ≤ c.args.blocks.now.len = search rules in
    let part = block_in_part xs n inside c.b-item.result made
    (c.b-item.is ∙ ap (λ (zs : List Block). get_or zs n c.b-item.result) c.loop-b.invariant.code)
    (ap (λ (d : Block). d.id) is) (ap (λ (d : Block). d.source_end) is)
    (subst (λ (d : Block). AreItemsSet d.items made.items) is c.set_items.ensures.each) in
    blocks_back xs _ c.args.blocks.now.len long (subst (λ (zs : List Block). AreBlocksSet xs (set zs n made)) (sym c.loop-b.invariant.code) part)

pub returns-clause-forms : goal.returns-clause-forms
returns-clause-forms c = λ k d lt.
    let value = ap (λ (zs : List Block). length zs) c.deref_mut-b-items.ensures.value in
    let end = c.loop-b-test.false in
    c.loop-b.invariant.forms k d (omega (arith, lt, end, value))

pub returns-clause-each : goal.returns-clause-each
returns-clause-each c =
    let xs : List Block = c.args.blocks.now.items in
    let long : length c.args.blocks.now.items ≤ c.args.blocks.now.len = search rules in
    blocks_back xs c.loop-b.b-items c.args.blocks.now.len long
    (subst (AreBlocksSet xs) (sym c.loop-b.invariant.code) (blocks_done xs c.loop-b.b-index))
