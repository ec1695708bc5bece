use Rattle.std.proofs.Common.{◌≡◌, List, length, take, Option, Some, None, slice_get, sym, ap, ◌∙◌, arith}
use Rattle.std.proofs.lemmas.Option.{slice_get-get_or}
use Rattle.std.proofs.lemmas.Result.{on_ok_weaker}
use Rattle.mir_func.specs.declared.item.Item.{Item}
use Rattle.pass_salvage.specs.declared.salvage_action.SalvageAction.{SalvageAction}
use Rattle.pass_salvage.specs.SalvageAction.{salvage_action, going_from}
use Rattle.dce_salvage.specs.declared.salvage_numbers.Copied.{Copied}
use Rattle.dce_salvage.specs.SalvageNumbers.{SoFar, numbered_copy, salvaged_items, copy_in, salvage_copy}
use Rattle.dce_salvage.proofs.Down.{off_long}
use Rattle.dce_salvage.proofs.salvage_numbers.salvage_item.Goals as goal

pub returns-in-Some-clause-longer : goal.returns-in-Some-clause-longer
returns-in-Some-clause-longer c =
    let xs : List Item = c.args.items.now.items in
    let copied : Copied = c.in-Some.copied in
    let w : SalvageAction = salvage_action (going_from 0 c.args.dead.now) c.args.subs.now c.args.fresh.now copied.number copied.source (take c.args.at xs) in
    on_ok_weaker c.salvage_number.result
    (λ e. (let longer = off_long w c.args.at copied xs in
    let same : length c.salvage_number.new.items.items ≡ length (salvaged_items w c.args.at copied xs) = ap (λ (ys : List Item). length ys) e in
    omega (arith, longer, same)))
    c.salvage_number.ensures.items

pub returns-in-None-clause-off : goal.returns-in-None-clause-off
returns-in-None-clause-off c =
    let xs : List Item = c.args.items.now.items in
    let x : Item = c.index.result.now in
    let a : SoFar = record { items = xs; subs = c.args.subs.now; fresh = c.args.fresh.now; lost = c.args.lost.now.items } in
    let there : slice_get xs c.args.at ≡ Some x = slice_get-get_or xs c.args.at x c.requires.at ∙ ap Some (sym c.index.ensures) in
    let none : numbered_copy x.kind ≡ None = sym c.numbered_copy.ensures ∙ c.in-None.is in
    sym (ap (λ (o : Option Item). salvage_copy (going_from 0 c.args.dead.now) c.args.at a (copy_in o)) there ∙
    ap (λ (o : Option Copied). salvage_copy (going_from 0 c.args.dead.now) c.args.at a o) none)
