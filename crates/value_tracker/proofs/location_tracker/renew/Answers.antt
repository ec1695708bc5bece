use Rattle.std.proofs.Common.{ℕ, ◌+◌, arith, sym, ◌∙◌, subst}
use Rattle.std.specs.Prelude.{nat_eq}
use Rattle.std.specs.List.{list_any}
use Rattle.rv64_instr.specs.DefsAndUses.{caller_saved}
use Rattle.value_tracker.proofs.Places.{RenewedBelow, renewed_set, renewed_kept}
use Rattle.value_tracker.proofs.location_tracker.renew.Goals as goal
use Rattle.value_tracker.proofs.location_tracker.renew.Goals.{then-is_caller_saved, else-is_caller_saved}

pub loop-r-preserved : goal.loop-r-preserved
loop-r-preserved c =
    let saved = λ (j : ℕ). list_any (λ q. nat_eq j q) caller_saved in
    let next = c.args.next in
    let old = c.args.places.now in
    let r = c.loop-r.r in
    elim c.if-is_caller_saved.branch [
      | then-is_caller_saved w ↦ record {
        places = subst (RenewedBelow saved next old (r + 1)) (sym w.places-is)
            (renewed_set saved next old r c.loop-r.places c.loop-r.invariant.places (omega arith) (sym c.is_caller_saved.ensures ∙ w.if-is_caller_saved.true));
      }
      | else-is_caller_saved w ↦ record {
        places = subst (RenewedBelow saved next old (r + 1)) (sym w.places-is)
            (renewed_kept saved next old r c.loop-r.places c.loop-r.invariant.places (sym c.is_caller_saved.ensures ∙ w.if-is_caller_saved.false));
      }
    ]
