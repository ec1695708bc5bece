use Rattle.std.proofs.Common.{◌≡◌, ◌++◌, ◌&&◌, ℕ, List, [], Option, None, cond, append-nil, sym, ap, ◌∙◌}
use Rattle.std.specs.List.{cons_option}
use Rattle.pass_liveness.proofs.mir_func.Filtered.{filter_map_turn}
use Rattle.pass_liveness.specs.mir_func.Function.{Function}
use Rattle.spill_rule.specs.pass_trait.declared.loss.Loss.{Loss}
use Rattle.spill_rule.specs.pass_trait.declared.loss.Reason.{Reason}
use Rattle.spill_rule.specs.pass_trait.Causes.{is_named}
use Rattle.spill_rule.specs.spill_code.declared.spilling.SlotAssignment.{SlotAssignment}
use Rattle.spill_rule.specs.spill_code.Rewrite.{slot_of}
use Rattle.spill_rule.specs.Choice.{is_bound, homes_of}
use Rattle.spill_select.specs.Incoming.{is_among}
use Rattle.spill_select.specs.Left.{first_reason, or_no_slot, why_left, loss_for}
use Rattle.spill_select.proofs.left.registers_left.Goals as goal
use Rattle.spill_select.proofs.left.registers_left.Goals.{in-Some+in_ok-push, in_default}

pub loop-r-preserved : goal.loop-r-preserved
loop-r-preserved c =
    let f : Function = c.args.f.now in
    let among : List ℕ = c.args.incoming.now in
    let reserve : List ℕ = c.args.reserve.now in
    let all : List SlotAssignment = homes_of reserve (is_among among) f in
    let r : ℕ = c.r-item.result in
    let so_far : List Loss = c.loop-r.losses in
    let lacks = c.in_ok-lacks_scratch.ensures in
    let looped = c.is_looped.ensures in
    let same = c.requires in
    let o : c.why_left.result ≡ why_left f (is_among among) all r =
    c.why_left.ensures ∙ (λ i. cond (is_named f r) (or_no_slot (first_reason (lacks i) (is_bound f r) (is_among among r && looped i)) (slot_of (same i) r))
    None) in
    let more : c.match-why_left.losses ≡ so_far ++ cons_option (loss_for r (why_left f (is_among among) all r)) [] =
    elim c.match-why_left.branch [
      | in-Some+in_ok-push w ↦ w.losses-is ∙ w.in_ok-push.ensures.ok ∙
          ap (λ (x : Option Reason). so_far ++ cons_option (loss_for r x) []) (sym w.in-Some.is ∙ o)
      | in_default w ↦ w.losses-is ∙ sym (append-nil so_far) ∙
          ap (λ (x : Option Reason). so_far ++ cons_option (loss_for r x) []) (sym w.in_default.is ∙ o)
    ] in
    filter_map_turn (λ (q : ℕ). loss_for q (why_left f (is_among among) all q)) reserve c.loop-r.r-index r so_far c.match-why_left.losses []
    c.loop-r-test.true c.r-item.is c.loop-r.invariant more
