use Rattle.std.proofs.Common.{true, false, sym, ◌∙◌}
use Rattle.prologue_rows.proofs.Steps.{changes_step}
use Rattle.prologue_rows.proofs.rows.push_changes.Goals as goal
use Rattle.prologue_rows.proofs.rows.push_changes.Goals.{then-not-is_place_before+in_ok-push, else-not-is_place_before}

pub loop-row-preserved : goal.loop-row-preserved
loop-row-preserved c = elim c.if-not-is_place_before.branch [
  | then-not-is_place_before+in_ok-push w ↦
      changes_step _ _ _ _ _ _ _ _ c.loop-row-test.true c.loop-row.invariant false (sym w.if-not-is_place_before.true ∙ c.is_place_before.ensures) w.before-is
      (w.kept-is ∙ w.in_ok-push.ensures.ok)
  | else-not-is_place_before w ↦
      changes_step _ _ _ _ _ _ _ _ c.loop-row-test.true c.loop-row.invariant true (sym w.if-not-is_place_before.false ∙ c.is_place_before.ensures) w.before-is
      w.kept-is
]
