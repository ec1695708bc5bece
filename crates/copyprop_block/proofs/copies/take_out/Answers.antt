use Rattle.std.proofs.Common.{◌≡◌, ◌<◌, ◌+◌, ◌++◌, List, length, get_or, take, drop, set, sym, ap, ◌∙◌, subst}
use Rattle.std.specs.List.{swap}
use Rattle.std.proofs.lemmas.List.{take-append-drop}
use Rattle.mir_func.specs.declared.item.Item.{Item}
use Rattle.pass_salvage.specs.declared.salvage_action.SalvageAction.{SalvageAction}
use Rattle.pass_salvage.specs.Salvage.{above_after, put_for, phi_for}
use Rattle.copyprop_block.specs.Copied.{salvaged}
use Rattle.copyprop_block.specs.Next.{Stands}
use Rattle.copyprop_block.proofs.Fronts.{get_any, get_set, above_stands, phi_stands, lookup_up}
use Rattle.copyprop_block.proofs.copies.take_out.Goals as goal

pub returns-in-HasEntry-clause-stands : goal.returns-in-HasEntry-clause-stands
returns-in-HasEntry-clause-stands c x roots here =
    let xs = c.args.items.now.items in
    let k = c.args.number in
    let s = c.args.source in
    let e = c.in_ok-action.ensures in
    subst (λ (w : SalvageAction). Stands
    (salvaged (record { done = take c.args.kept xs; roots = roots; subs = c.args.subs.now; fresh = c.args.fresh.now }) k s x.origin w)
    c.args.kept (c.args.at + 1) c.salvage.new.items.items xs roots c.salvage.new.subs c.salvage.new.fresh) e.action
    (above_stands xs c.args.kept c.args.at k s c.args.subs.now c.args.fresh.now roots c.requires.within c.requires.at c.in_ok-action.action
    c.salvage.new.items.items e.items x.origin c.salvage.new.subs c.salvage.new.fresh (ap (λ (w : SalvageAction). put_for w k s x.origin) c.in-HasEntry.is)
    e.entries e.fresh)

pub returns-in-GetsEntry-clause-stands : goal.returns-in-GetsEntry-clause-stands
returns-in-GetsEntry-clause-stands c x roots here =
    let xs = c.args.items.now.items in
    let k = c.args.number in
    let s = c.args.source in
    let e = c.in_ok-action.ensures in
    subst (λ (w : SalvageAction). Stands
    (salvaged (record { done = take c.args.kept xs; roots = roots; subs = c.args.subs.now; fresh = c.args.fresh.now }) k s x.origin w)
    c.args.kept (c.args.at + 1) c.salvage.new.items.items xs roots c.salvage.new.subs c.salvage.new.fresh) e.action
    (above_stands xs c.args.kept c.args.at k s c.args.subs.now c.args.fresh.now roots c.requires.within c.requires.at c.in_ok-action.action
    c.salvage.new.items.items e.items x.origin c.salvage.new.subs c.salvage.new.fresh (ap (λ (w : SalvageAction). put_for w k s x.origin) c.in-GetsEntry.is)
    e.entries e.fresh)

pub returns-in_ok-push-in-GetsPhi-clause-stands : goal.returns-in_ok-push-in-GetsPhi-clause-stands
returns-in_ok-push-in-GetsPhi-clause-stands c x roots here =
    let xs = c.args.items.now.items in
    let zs = c.salvage.new.items.items in
    let kept = c.args.kept in
    let at = c.args.at in
    let k = c.args.number in
    let s = c.args.source in
    let e = c.in_ok-action.ensures in
    let same : zs ≡ xs =
    e.items ∙ ap (λ (w : SalvageAction). above_after w (take kept xs) ++ drop kept xs) c.in-GetsPhi.is ∙ take-append-drop kept xs in
    let x0 = c.index_mut.result.now in
    let made = c.put_phi.new.x in
    let copy : x0 ≡ x =
    c.index_mut.ensures.value ∙ get_any zs at x0 x (subst (λ (ys : List Item). at < length ys) (sym same) c.requires.at) ∙
    (λ i. get_or (same i) at x) ∙ sym here in
    subst (λ (w : SalvageAction). Stands
    (salvaged (record { done = take kept xs; roots = roots; subs = c.args.subs.now; fresh = c.args.fresh.now }) k s x.origin w)
    (kept + 1) (at + 1) c.swap.new.self.items xs roots c.salvage.new.subs c.salvage.new.fresh) e.action
    (phi_stands xs kept at k s c.args.subs.now c.args.fresh.now roots c.requires.within c.requires.at made x.origin c.swap.new.self.items
    c.in_ok-action.action c.salvage.new.subs c.salvage.new.fresh c.in-GetsPhi.is (c.put_phi.ensures ∙ ap (λ (i : Item). phi_for k s i.origin) copy)
    (c.swap.ensures.items ∙ ap (λ (ys : List Item). swap (set ys at made) kept at) same) e.entries e.fresh)

pub returns-in_ok-push-in-GetsPhi-clause-lookup : goal.returns-in_ok-push-in-GetsPhi-clause-lookup
returns-in_ok-push-in-GetsPhi-clause-lookup c =
    let zs = c.salvage.new.items.items in
    let kept = c.args.kept in
    let at = c.args.at in
    let made = c.put_phi.new.x in
    let lt : at < length zs = subst (λ n. at < n) (sym c.salvage.ensures.size) c.requires.at in
    lookup_up zs c.swap.new.self.items kept at made c.push.new.self c.salvage.new.subs c.requires.within lt c.swap.ensures.items
    (λ len. c.in_ok-push-in-GetsPhi.ensures (take kept zs) made c.in_ok-action.ensures.lookup len
    (ap (λ (i : Item). i.kind) (sym (c.index.ensures ∙ get_set zs at made c.index.result.now lt))))
