use Rattle.std.proofs.Common.{◌≡◌, ◌+◌, ◌-◌, ◌*◌, ℕ, List, cond, ap, ◌∙◌}
use Rattle.std.specs.Prelude.{◌&&◌, nat_eq, nat_le, slice_index}
use Rattle.std.specs.List.{list_any}
use Rattle.rv64_instr.specs.declared.operand.Operand.{Operand}
use Rattle.rv64_instr.specs.DefsAndUses.{caller_saved}
use Rattle.rv64_instr.specs.LocationEffects.{is_outgoing}
use Rattle.value_tracker.specs.LocationTracker.{number_class}
use Rattle.value_tracker.proofs.Rows.{call_past}
use Rattle.value_tracker.proofs.location_tracker.LocationTracker.pass_row.Goals as goal

pub returns-in-Calls-clause-places : goal.returns-in-Calls-clause-places
returns-in-Calls-clause-places c =
    let old = slice_index c.args.self.now.places.items in
    let mid = slice_index c.clear_passed.new.self.places.items in
    let same : c.as_slice.result.now ≡ c.args.instr.now.operands = c.as_slice.ensures ∙ ap (λ i. i.operands) c.instr.view_is in
    call_past c.args.instr.now c.in-Calls.field-0 c.in-Calls.ensures.row (number_class c.args.index.now c.args.settled.now) c.args.self.now.next old mid
    (slice_index c.call.new.self.places.items)
    (λ j. c.clear_passed.ensures.places j
    ∙ ap (λ (os : List Operand). cond (nat_le 32 j && list_any (is_outgoing (8 * (j - 32))) os) 0 (old j)) same)
    (λ j. c.call.ensures.places j ∙ ap (λ (n : ℕ). cond (list_any (λ q. nat_eq j q) caller_saved) (n + j) (mid j)) c.clear_passed.ensures.next)
