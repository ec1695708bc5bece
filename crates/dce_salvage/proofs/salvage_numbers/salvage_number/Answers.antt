use Rattle.std.proofs.Common.{◌++◌, append-nil, sym, ap, ◌∙◌}
use Rattle.pass_salvage.specs.declared.salvage_action.SalvageAction.{SalvageAction}
use Rattle.pass_salvage.specs.Salvage.{entries_for, fresh_after}
use Rattle.dce_salvage.specs.SalvageNumbers.{added_by_salvage, lost_by_salvage, salvaged_items}
use Rattle.dce_salvage.proofs.Set.{bare_items}
use Rattle.dce_salvage.proofs.salvage_numbers.salvage_number.Goals as goal

pub returns-in-HasEntry-clause-items : goal.returns-in-HasEntry-clause-items
returns-in-HasEntry-clause-items c =
    let xs = c.args.items.now.items in
    let x = c.index_mut.result.now in
    let salvaged = c.in_ok-action.ensures in
    bare_items c.args.copied c.in_ok-action.action xs c.salvage_by_walk.new.items.items c.args.at x c.drop_number.new.x c.requires.at salvaged.items
    (sym c.index_mut.ensures.value) c.drop_number.ensures (ap (λ (w : SalvageAction). added_by_salvage w c.args.copied x.origin) c.in-HasEntry.is) ∙
    ap (λ (w : SalvageAction). salvaged_items w c.args.at c.args.copied xs) salvaged.action

pub returns-in-GetsEntry-clause-items : goal.returns-in-GetsEntry-clause-items
returns-in-GetsEntry-clause-items c =
    let xs = c.args.items.now.items in
    let x = c.index_mut-in-GetsEntry.result.now in
    let salvaged = c.in_ok-action.ensures in
    bare_items c.args.copied c.in_ok-action.action xs c.salvage_by_walk.new.items.items c.args.at x c.drop_number-in-GetsEntry.new.x c.requires.at
    salvaged.items (sym c.index_mut-in-GetsEntry.ensures.value) c.drop_number-in-GetsEntry.ensures
    (ap (λ (w : SalvageAction). added_by_salvage w c.args.copied x.origin) c.in-GetsEntry.is) ∙
    ap (λ (w : SalvageAction). salvaged_items w c.args.at c.args.copied xs) salvaged.action

pub returns-in-HasEntry-clause-entries : goal.returns-in-HasEntry-clause-entries
returns-in-HasEntry-clause-entries c =
    let salvaged = c.in_ok-action.ensures in
    salvaged.entries ∙ ap (λ (w : SalvageAction). c.args.subs.now ++ entries_for w c.args.copied.number) salvaged.action

pub returns-in-HasEntry-clause-fresh : goal.returns-in-HasEntry-clause-fresh
returns-in-HasEntry-clause-fresh c =
    let salvaged = c.in_ok-action.ensures in
    salvaged.fresh ∙ ap (λ (w : SalvageAction). fresh_after w c.args.fresh.now) salvaged.action

pub returns-in-HasEntry-clause-lost : goal.returns-in-HasEntry-clause-lost
returns-in-HasEntry-clause-lost c =
    sym (append-nil c.args.lost.now.items) ∙
    ap (λ (w : SalvageAction). c.args.lost.now.items ++ lost_by_salvage w c.args.copied) (sym c.in-HasEntry.is ∙ c.in_ok-action.ensures.action)

pub returns-in-GetsEntry-clause-entries : goal.returns-in-GetsEntry-clause-entries
returns-in-GetsEntry-clause-entries c =
    let salvaged = c.in_ok-action.ensures in
    salvaged.entries ∙ ap (λ (w : SalvageAction). c.args.subs.now ++ entries_for w c.args.copied.number) salvaged.action

pub returns-in-GetsEntry-clause-fresh : goal.returns-in-GetsEntry-clause-fresh
returns-in-GetsEntry-clause-fresh c =
    let salvaged = c.in_ok-action.ensures in
    salvaged.fresh ∙ ap (λ (w : SalvageAction). fresh_after w c.args.fresh.now) salvaged.action

pub returns-in-GetsEntry-clause-lost : goal.returns-in-GetsEntry-clause-lost
returns-in-GetsEntry-clause-lost c =
    sym (append-nil c.args.lost.now.items) ∙
    ap (λ (w : SalvageAction). c.args.lost.now.items ++ lost_by_salvage w c.args.copied) (sym c.in-GetsEntry.is ∙ c.in_ok-action.ensures.action)
