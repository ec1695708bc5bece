use Rattle.std.proofs.Common.{ℕ, ◌+◌, arith, sym, ◌∙◌, subst}
use Rattle.std.specs.Prelude.{nat_eq}
use Rattle.std.specs.List.{list_any}
use Rattle.rv64_instr.specs.DefsAndUses.{caller_saved}
use Rattle.kept_ranges.proofs.Clearing.{ClearedBelow, cleared_set, cleared_kept}
use Rattle.kept_ranges.proofs.places.clear_caller_saved.Goals as goal
use Rattle.kept_ranges.proofs.places.clear_caller_saved.Goals.{then-is_saved_by_caller, else-is_saved_by_caller}

pub loop-r-preserved : goal.loop-r-preserved
loop-r-preserved c =
    let lost = λ (j : ℕ). list_any (nat_eq j) caller_saved in
    let old = c.args.places.now in
    let r = c.loop-r.r in
    elim c.if-is_saved_by_caller.branch [
      | then-is_saved_by_caller w ↦ record {
        places = subst (ClearedBelow lost old (r + 1)) (sym w.places-is)
            (cleared_set lost old r c.loop-r.places c.loop-r.invariant.places (omega arith)
            (sym c.is_saved_by_caller.ensures ∙ w.if-is_saved_by_caller.true));
      }
      | else-is_saved_by_caller w ↦ record {
        places = subst (ClearedBelow lost old (r + 1)) (sym w.places-is)
            (cleared_kept lost old r c.loop-r.places c.loop-r.invariant.places (sym c.is_saved_by_caller.ensures ∙ w.if-is_saved_by_caller.false));
      }
    ]
