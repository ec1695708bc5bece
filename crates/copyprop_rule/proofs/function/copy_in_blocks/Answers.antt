use Rattle.std.proofs.Common.{◌≡◌, ◌<◌, List, length, sym, ap, ◌∙◌, subst, arith}
use Rattle.mir_func.specs.declared.block.Block.{Block}
use Rattle.copyprop_block.specs.Copied.{over_items, at_block}
use Rattle.copyprop_rule.proofs.Loop.{Copies, copies_begin, room, copies_more, without}
use Rattle.copyprop_rule.proofs.function.copy_in_blocks.Goals as goal

pub loop-b-init : goal.loop-b-init
loop-b-init c =
    subst (λ (now : List Block). Copies c.args.blocks.now.items c.args.subs.now c.args.fresh.now 0 now c.args.subs.now c.args.fresh.now)
    (sym c.deref_mut-b-items.ensures.value)
    (copies_begin c.args.blocks.now.items c.args.subs.now c.args.fresh.now)

pub copy_items-requires : goal.copy_items-requires
copy_items-requires c =
    let xs : List Block = c.args.blocks.now.items in
    let lt = subst (λ (zs : List Block). c.loop-b.b-index < length zs) c.deref_mut-b-items.ensures.value c.loop-b-test.true in
    let e = ap (λ (z : Block). length z.items) (c.b.view_is ∙ sym c.b-item.is) in
    let r = room xs c.args.subs.now c.args.fresh.now c.loop-b.b-index c.loop-b.b-items c.loop-b.subs c.loop-b.fresh c.loop-b.invariant
    lt c.b-item.result c.b-item.is
    c.requires.fresh in
    omega (arith, e, r)

pub loop-b-preserved : goal.loop-b-preserved
loop-b-preserved c =
    let xs : List Block = c.args.blocks.now.items in
    let lt = subst (λ (zs : List Block). c.loop-b.b-index < length zs) c.deref_mut-b-items.ensures.value c.loop-b-test.true in
    let same = c.b.view_is ∙ sym c.b-item.is in
    let subs = c.loop-b.subs in
    let fresh = c.loop-b.fresh in
    let e = c.in_ok-copy_items.ensures in
    let most = e.counted in
    let len = ap (λ (z : Block). length z.items) same in
    let made : Block = record { id = c.b.inside.0.0; items = c.copy_items.new.items.items; source_end = c.b.inside.0.1.1.0 } in
    let b : made ≡ without subs fresh c.b-item.result =
    (λ i. record { id = c.b.inside.0.0; items = e.items i; source_end = c.b.inside.0.1.1.0 }) ∙ ap (without subs fresh) same in
    copies_more xs c.args.subs.now c.args.fresh.now c.loop-b.b-index c.loop-b.b-items subs fresh c.loop-b.invariant lt c.b-item.result c.b-item.is made
    c.copy_items.new.subs c.copy_items.new.fresh b (e.entries ∙ ap (λ (z : Block). (over_items (at_block subs fresh) z.items).subs) same)
    (e.fresh ∙ ap (λ (z : Block). (over_items (at_block subs fresh) z.items).fresh) same) (omega (arith, most, len))
