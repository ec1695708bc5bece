use Rattle.std.proofs.Common.{◌≡◌, ◌<◌, ◌≤◌, ◌∙◌, length, ap, sym, List, subst, get_or, inr, rules}
use Rattle.mir_func.specs.declared.item.Item.{Item}
use Rattle.mir_func.specs.Sound.{HasForm}
use Rattle.remat_pass.specs.Table.{known_by}
use Rattle.remat_pass.specs.Remat.{set_in}
use Rattle.remat_pass.proofs.Setting.{Setting, setting_begins, setting_goes_on, setting_turn}
use Rattle.remat_pass.proofs.Partly.{items_back}
use Rattle.remat_pass.proofs.remat.set_items.Goals as goal

pub loop-item-init : goal.loop-item-init
loop-item-init c =
    let known = known_by c.new-known.result.registers c.new-known.result.slots in
    subst (λ (now : List Item). Setting c.args.items.now.items 0 known now) (sym c.deref_mut-item-items.ensures.value)
    (setting_begins c.args.items.now.items known c.new-known.ensures)

pub loop-item-preserved : goal.loop-item-preserved
loop-item-preserved c =
    let x : Item = c.item-item.result in
    let index = c.loop-item.item-index in
    let now = c.loop-item.item-items in
    let known = known_by c.loop-item.known.registers c.loop-item.known.slots in
    let same : get_or now index x ≡ x = sym c.item-item.is in
    let kind : c.set_in.new.kind ≡ set_in known x.kind = c.in_ok-set_in.ensures.code ∙ ap (λ (i : Item). set_in known i.kind) same in
    let made : Item = record { kind = c.set_in.new.kind; origin = (get_or now index x).origin; loc = (get_or now index x).loc } in
    let is : made ≡ record x { kind = set_in known x.kind } = λ j. record { kind = kind j; origin = (same j).origin; loc = (same j).loc } in
    let form : HasForm x.kind = subst (λ (i : Item). HasForm i.kind) same c.set_in.ensures.form in
    let inside = subst (λ (xs : List Item). index < length xs) c.deref_mut-item-items.ensures.value c.loop-item-test.true in
    setting_goes_on c.loop-item.invariant inside x made c.item-item.is is form (known_by c.pass.new.self.registers c.pass.new.self.slots)
    c.in_ok-pass.ensures

pub returns-in_err-pass-clause-each : goal.returns-in_err-pass-clause-each
returns-in_err-pass-clause-each c =
    let x : Item = c.item-item.result in
    let index = c.loop-item.item-index in
    let now = c.loop-item.item-items in
    let known = known_by c.loop-item.known.registers c.loop-item.known.slots in
    let same : get_or now index x ≡ x = sym c.item-item.is in
    let kind : c.set_in.new.kind ≡ set_in known x.kind = c.in_ok-set_in.ensures.code ∙ ap (λ (i : Item). set_in known i.kind) same in
    let made : Item = record { kind = c.set_in.new.kind; origin = (get_or now index x).origin; loc = (get_or now index x).loc } in
    let is : made ≡ record x { kind = set_in known x.kind } = λ j. record { kind = kind j; origin = (same j).origin; loc = (same j).loc } in
    let inside = subst (λ (xs : List Item). index < length xs) c.deref_mut-item-items.ensures.value c.loop-item-test.true in
    let long : length c.args.items.now.items ≤ c.args.items.now.len = search rules in
    items_back c.args.items.now.items _ c.args.items.now.len long (setting_turn c.loop-item.invariant inside x made c.item-item.is (inr (known, is)))
