use Rattle.std.proofs.Common.{◌≡◌, ◌*◌, ℕ, List, Some, None, ap, sym, ◌∙◌}
use Rattle.std.specs.Ordering.{nat_cmp}
use Rattle.std.specs.BTreeMap.{get}
use Rattle.frame_rule.specs.Rule.{slot_offset}
use Rattle.frame_lowering.specs.steps.Framing.{offset_in}
use Rattle.frame_lowering.proofs.Offsets.{found_offset, missing_offset}
use Rattle.frame_lowering.proofs.slots.SlotOffsets.of.Goals as goal

pub returns-in-Some : goal.returns-in-Some
returns-in-Some c =
    let list = c.self.inside.list in
    let view : list ≡ c.args.self.now = cc in
    let got : offset_in 0 list c.args.slot ≡ Some c.in-Some.offset.now =
    sym (c.self.invariant.found c.args.slot) ∙ (ap (λ (n : ℕ). get nat_cmp c.self.inside.offsets n) (sym c.number.ensures) ∙ sym c.in-Some.ensures.value) in
    found_offset c.in-Some.offset.now list c.args.slot got ∙ ap (λ (xs : List ℕ). slot_offset xs c.args.slot) view

pub returns-in-None : goal.returns-in-None
returns-in-None c =
    let list = c.self.inside.list in
    let view : list ≡ c.args.self.now = cc in
    let got : offset_in 0 list c.args.slot ≡ None =
    sym (c.self.invariant.found c.args.slot) ∙ (ap (λ (n : ℕ). get nat_cmp c.self.inside.offsets n) (sym c.number.ensures) ∙ sym c.in-None.ensures.value) in
    ap (λ (n : ℕ). 8 * n) c.len.ensures ∙ missing_offset list c.args.slot got ∙ ap (λ (xs : List ℕ). slot_offset xs c.args.slot) view
