use Rattle.std.proofs.Common.{◌≡◌, true, false, cond, Some, List, [], ◌∷◌, ◌++◌, subst, sym, ap, ◌∙◌}
use Rattle.emit_code.specs.declared.code.EncodedInstruction.{EncodedInstruction}
use Rattle.dwarf_line_table.specs.Table.{is_place_before}
use Rattle.dwarf_line_table.proofs.RowSteps.{SoFar, next}
use Rattle.dwarf_line_table.proofs.Split.{split_at}
use Rattle.dwarf_line_table.proofs.rows.rows.Goals as goal
use Rattle.dwarf_line_table.proofs.rows.rows.Goals.{then-not-is_place_before+in_ok-push, else-not-is_place_before}

pub loop-entry-preserved : goal.loop-entry-preserved
loop-entry-preserved c =
    let P : List EncodedInstruction →
    Type 0 = λ es. SoFar c.args.meta.now c.args.places.now c.args.files.now c.loop-entry.files c.args.entries.now es c.loop-entry.before
    c.loop-entry.rows in
    let so = subst P (split_at c.args.entries.now c.loop-entry.entry-index c.entry-item.result c.loop-entry-test.true c.entry-item.is) c.loop-entry.invariant in
    let before = c.loop-entry.before in
    let rows = c.loop-entry.rows in
    let r = c.in_ok-row.row in
    let step = next _ _ _ _ _ _ _ _ before c.if-not-is_place_before.before rows c.if-not-is_place_before.rows r _ so c.loc.ensures c.in_ok-row.ensures.known
    c.in_ok-row.ensures.row c.in_ok-row.ensures.few in
    elim c.if-not-is_place_before.branch [
      | then-not-is_place_before+in_ok-push w ↦
          let new : false ≡ is_place_before before r = sym w.if-not-is_place_before.true ∙ c.is_place_before.ensures in
          step (w.before-is ∙ ap (λ b. cond b before (Some r)) new) (w.rows-is ∙ w.in_ok-push.ensures.ok ∙ ap (λ b. cond b rows (rows ++ r ∷ [])) new)
      | else-not-is_place_before w ↦
          let same : true ≡ is_place_before before r = sym w.if-not-is_place_before.false ∙ c.is_place_before.ensures in
          step (w.before-is ∙ ap (λ b. cond b before (Some r)) same) (w.rows-is ∙ ap (λ b. cond b rows (rows ++ r ∷ [])) same)
    ]
