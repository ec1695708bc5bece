use Rattle.std.proofs.Common.{◌≡◌, ℕ, suc, List, ◌∷◌, drop, drop-cons, ap, sym, ◌∙◌, arith}
use Rattle.mir_func.specs.declared.item.Item.{Item}
use Rattle.spill_code.specs.declared.spilling.SlotAssignment.{SlotAssignment}
use Rattle.spill_debug.specs.RewrittenDebugItems.{next_number, number_behind}
use Rattle.spill_debug.proofs.Numbers.{behind_up}
use Rattle.spill_debug.proofs.marks.push_items.Goals as goal

pub push_item-requires : goal.push_item-requires
push_item-requires c =
    let homes : List SlotAssignment = c.args.s.now.homes in
    let items : List Item = c.args.items.now in
    let x : Item = c.i-item.result in
    let i : ℕ = c.loop-i.i-index in
    let d : drop i items ≡ x ∷ drop (suc i) items = drop-cons items i x c.loop-i-test.true ∙ ap (λ (y : Item). y ∷ drop (suc i) items) (sym c.i-item.is) in
    let e : number_behind homes (next_number homes c.loop-i.fresh x.kind) (drop (suc i) items) ≡ number_behind homes c.args.fresh.now items =
    ap (number_behind homes c.loop-i.fresh) (sym d) ∙ c.loop-i.invariant.1 in
    let up = behind_up homes (next_number homes c.loop-i.fresh x.kind) (drop (suc i) items) in
    let h = c.requires in
    omega (arith, e, up, h)
