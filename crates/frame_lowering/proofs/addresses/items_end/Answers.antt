use Rattle.std.proofs.Common.{◌≡◌, ℕ, ◌+◌, max, drop, sym, ap, ◌∙◌, arith}
use Rattle.std.proofs.lemmas.Bool.Decides.{nat_tests}
use Rattle.frame_rule.specs.Rule.{kind_end, items_end}
use Rattle.frame_lowering.proofs.Ends.{items_turn, items_done}
use Rattle.frame_lowering.proofs.addresses.items_end.Goals as goal

pub loop-item-preserved : goal.loop-item-preserved
loop-item-preserved c =
    let own = c.args.own in
    let objects = c.args.objects.now in
    let items = c.args.items.now in
    let i = c.loop-item.item-index in
    let item = c.item-item.result in
    let most : c.max-greatest.result ≡ max c.loop-item.greatest (kind_end own objects item.kind) =
    grind (arith, nat_tests, c.max-greatest.ensures, c.kind_end.ensures) in
    ap (λ (n : ℕ). items_end own objects n (drop (i + 1) items)) most
    ∙ sym (items_turn own objects c.loop-item.greatest i item items c.loop-item-test.true c.item-item.is) ∙ c.loop-item.invariant

pub returns : goal.returns
returns c =
    sym (items_done c.args.own c.args.objects.now c.loop-item.greatest c.loop-item.item-index c.args.items.now c.loop-item-test.false)
    ∙ c.loop-item.invariant
