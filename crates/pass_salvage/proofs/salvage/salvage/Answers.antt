use Rattle.std.proofs.Common.{◌≡◌, ◌<◌, ◌≤◌, ◌++◌, ℕ, List, length, take, drop, append-nil, sym, ap, ◌∙◌, subst, arith}
use Rattle.std.proofs.lemmas.List.{length-take-le, take-append-drop}
use Rattle.mir_func.specs.declared.item.Item.{Item}
use Rattle.pass_salvage.specs.declared.salvage_action.SalvageAction.{SalvageAction}
use Rattle.pass_salvage.specs.Salvage.{above_after, entries_for, fresh_after}
use Rattle.pass_salvage.specs.SalvageAction.{salvage_action, going_from}
use Rattle.pass_salvage.specs.Lookup.{IsLookupOf}
use Rattle.pass_salvage.proofs.Chosen.{entered}
use Rattle.pass_salvage.proofs.salvage.salvage.Goals as goal

inside : (xs ys : List Item) (at d : ℕ) → ys ≡ xs → at ≤ length xs → d < length (take at ys) → d < at
inside xs ys at d e le h =
    let k : d < length (take at xs) = subst (λ (zs : List Item). d < length (take at zs)) e h in
    let len : length (take at xs) ≡ at = length-take-le at xs le in
    omega (arith, k, len)

pub choose_way-action-requires : goal.choose_way-action-requires
choose_way-action-requires c =
    subst (λ (ys : List Item). IsLookupOf c.args.lookup.now c.args.subs.now (take c.args.at ys)) (sym c.deref.ensures.value) c.requires.lookup

pub put_entry-requires-clause-above : goal.put_entry-requires-clause-above
put_entry-requires-clause-above c =
    inside c.args.items.now.items c.deref.result.now c.args.at c.in-GetsEntry.d c.deref.ensures.value c.requires.at
    (c.choose_way-action.ensures.within _ _ _ c.in-GetsEntry.is)

pub put_entry-requires-clause-free : goal.put_entry-requires-clause-free
put_entry-requires-clause-free c =
    (entered (going_from 0 c.args.removed.now) c.args.subs.now c.args.fresh.now c.args.number c.args.source (take c.args.at c.deref.result.now) c.in-GetsEntry.d
    c.in-GetsEntry.operand c.in-GetsEntry.standing (sym c.choose_way-action.ensures.chosen ∙ c.in-GetsEntry.is)).none

pub returns-in-HasEntry-clause-items : goal.returns-in-HasEntry-clause-items
returns-in-HasEntry-clause-items c =
    let xs = c.args.items.now.items in
    sym (take-append-drop c.args.at xs) ∙ sym (ap (λ (w : SalvageAction). above_after w (take c.args.at xs) ++ drop c.args.at xs) c.in-HasEntry.is)

pub returns-in-HasEntry-clause-entries : goal.returns-in-HasEntry-clause-entries
returns-in-HasEntry-clause-entries c =
    sym (append-nil c.args.subs.now) ∙ sym (ap (λ (w : SalvageAction). c.args.subs.now ++ entries_for w c.args.number) c.in-HasEntry.is)

pub returns-in-HasEntry-clause-fresh : goal.returns-in-HasEntry-clause-fresh
returns-in-HasEntry-clause-fresh c = sym (ap (λ (w : SalvageAction). fresh_after w c.args.fresh.now) c.in-HasEntry.is)

pub returns-in-HasEntry-clause-action : goal.returns-in-HasEntry-clause-action
returns-in-HasEntry-clause-action c =
    c.choose_way-action.ensures.chosen ∙
    ap (λ (ys : List Item). salvage_action (going_from 0 c.args.removed.now) c.args.subs.now c.args.fresh.now c.args.number c.args.source (take c.args.at ys))
    c.deref.ensures.value

pub returns-in-GetsPhi-clause-items : goal.returns-in-GetsPhi-clause-items
returns-in-GetsPhi-clause-items c =
    let xs = c.args.items.now.items in
    sym (take-append-drop c.args.at xs) ∙ sym (ap (λ (w : SalvageAction). above_after w (take c.args.at xs) ++ drop c.args.at xs) c.in-GetsPhi.is)

pub returns-in-GetsPhi-clause-entries : goal.returns-in-GetsPhi-clause-entries
returns-in-GetsPhi-clause-entries c =
    sym (append-nil c.args.subs.now) ∙ sym (ap (λ (w : SalvageAction). c.args.subs.now ++ entries_for w c.args.number) c.in-GetsPhi.is)

pub returns-in-GetsPhi-clause-fresh : goal.returns-in-GetsPhi-clause-fresh
returns-in-GetsPhi-clause-fresh c = sym (ap (λ (w : SalvageAction). fresh_after w c.args.fresh.now) c.in-GetsPhi.is)

pub returns-in-GetsPhi-clause-action : goal.returns-in-GetsPhi-clause-action
returns-in-GetsPhi-clause-action c =
    c.choose_way-action.ensures.chosen ∙
    ap (λ (ys : List Item). salvage_action (going_from 0 c.args.removed.now) c.args.subs.now c.args.fresh.now c.args.number c.args.source (take c.args.at ys))
    c.deref.ensures.value

pub returns-in_ok-put_entry-in-GetsEntry-clause-items : goal.returns-in_ok-put_entry-in-GetsEntry-clause-items
returns-in_ok-put_entry-in-GetsEntry-clause-items c = c.in_ok-put_entry-in-GetsEntry.ensures.items

pub returns-in_ok-put_entry-in-GetsEntry-clause-entries : goal.returns-in_ok-put_entry-in-GetsEntry-clause-entries
returns-in_ok-put_entry-in-GetsEntry-clause-entries c = c.in_ok-put_entry-in-GetsEntry.ensures.entries

pub returns-in_ok-put_entry-in-GetsEntry-clause-fresh : goal.returns-in_ok-put_entry-in-GetsEntry-clause-fresh
returns-in_ok-put_entry-in-GetsEntry-clause-fresh c = c.use_fresh.ensures.value

pub returns-in_ok-put_entry-in-GetsEntry-clause-action : goal.returns-in_ok-put_entry-in-GetsEntry-clause-action
returns-in_ok-put_entry-in-GetsEntry-clause-action c =
    sym c.in-GetsEntry.is ∙ c.choose_way-action.ensures.chosen ∙
    ap (λ (ys : List Item). salvage_action (going_from 0 c.args.removed.now) c.args.subs.now c.args.fresh.now c.args.number c.args.source (take c.args.at ys))
    c.deref.ensures.value
