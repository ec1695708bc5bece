use Rattle.std.proofs.Common.{refl, subst, sym, drop, ◌+◌, suc}
use Rattle.mir_func.specs.declared.item.Item.{Item}
use Rattle.mir_func.specs.Successors.{pos_in}
use Rattle.emit_code.specs.Rule.{Site}
use Rattle.listing_function.specs.steps.Entries.{IsPlaced}
use Rattle.listing_function.proofs.Walked.{Rest, item_stands, item_more}
use Rattle.listing_function.proofs.lines.push_items.Goals as goal

pub loop-item-preserved : goal.loop-item-preserved
loop-item-preserved c = λ x b others source placed apart here.
    let items = c.args.items.now in
    let k = c.loop-item.item-index in
    let i = c.item-item.result in
    let less = c.loop-item-test.true in
    let so = c.loop-item.invariant x b others source placed apart here in
    let s : Site = record { point = pos_in b k; item = i } in
    let there : IsPlaced x.framed i.kind = subst (λ (t : Item). IsPlaced x.framed t.kind) (sym c.item-item.is) (placed k i less) in
    let stands = item_stands x b k items i c.args.entries.now others c.loop-item.at c.loop-item.lines _ less c.item-item.is (apart k) so in
    item_more x b k items i c.args.entries.now others c.loop-item.at c.in_ok-at.at c.loop-item.lines c.push_item.new.lines _ less c.item-item.is so
    (c.in_ok-at.ensures x s (Rest x b (suc k) (drop (k + 1) items) others) source there stands refl)
