use Rattle.std.proofs.Common.{◌≡◌, ◌-◌, ◌*◌, List, cond, sym, ◌∙◌, ap}
use Rattle.std.specs.Prelude.{Bool, ◌&&◌, nat_le, slice_index}
use Rattle.std.specs.List.{list_any}
use Rattle.rv64_instr.specs.declared.operand.Operand.{Operand}
use Rattle.rv64_instr.specs.LocationEffects.{is_outgoing}
use Rattle.rv64_instr.proofs.Passed.{passes_any}
use Rattle.mir_func.specs.declared.item.ItemKind.{ItemKind}
use Rattle.value_tracker.specs.LocationTracker.{is_slot_at}
use Rattle.kept_ranges.specs.Calls.{slots_passed}
use Rattle.kept_ranges.proofs.places.clear_passed.Goals as goal

pub returns-in-Code-clause-places : goal.returns-in-Code-clause-places
returns-in-Code-clause-places c = λ i.
    let old = slice_index c.args.held.now.places.items i in
    let operands = c.in-Code.instr.operands in
    let same : c.as_slice.result.now ≡ operands = c.as_slice.ensures ∙ ap (λ i. i.operands) c.instr.view_is in
    c.clear_passed.ensures.places i
    ∙ (ap (λ (os : List Operand). cond (nat_le 32 i && list_any (is_outgoing (8 * (i - 32))) os) 0 old) same
    ∙ (ap (λ (b : Bool). cond (nat_le 32 i && b) 0 old) (passes_any (8 * (i - 32)) operands)
    ∙ ap (λ (kind : ItemKind). cond (is_slot_at (slots_passed kind) i) 0 old) (sym c.in-Code.is)))
