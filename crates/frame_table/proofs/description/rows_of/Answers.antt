use Rattle.std.proofs.Common.{◌≡◌, ◌+◌, ◌≤◌, ◌∙◌, false, List, length, sym, ap, subst, arith}
use Rattle.dwarf_frame.specs.declared.table.Row.{Row}
use Rattle.dwarf_frame.specs.Table.{is_saved}
use Rattle.frame_table.specs.declared.state.FrameState.{FrameState}
use Rattle.frame_table.specs.Table.{distances_from}
use Rattle.frame_table.proofs.Going.{Gone, IsStateOf, begin, same_state, new_state, done}
use Rattle.frame_table.proofs.description.rows_of.Goals as goal
use Rattle.frame_table.proofs.description.rows_of.Goals.{then-not-is_same+in_ok-push, else-not-is_same}

pub loop-entry-init : goal.loop-entry-init
loop-entry-init c =
    subst (Gone c.args.framed.now c.has_saved-saves.result c.args.entries.now 0 0 false) (sym c.new-rows.ensures)
    (begin c.args.framed.now c.has_saved-saves.result c.args.entries.now)

pub loop-entry-preserved : goal.loop-entry-preserved
loop-entry-preserved c =
    let f = c.args.framed.now in
    let saves = c.has_saved-saves.result in
    let all = c.args.entries.now in
    let i = c.loop-entry.entry-index in
    let e = c.entry-item.result in
    let before = c.loop-entry.before in
    let now = c.state_at-state.result in
    let are : saves ≡ is_saved (distances_from f 0 32) = c.has_saved-saves.ensures ∙ ap is_saved c.distances-saved.ensures in
    let is : IsStateOf f saves e now.lowered now.saved =
    record { lowered = c.state_at-state.ensures.lowered; saved = c.state_at-state.ensures.saved } in
    let Next : FrameState → List Row → Type 0 = λ s rows. Gone f saves all (i + 1) s.lowered s.saved rows in
    elim c.if-not-is_same.branch [
      | then-not-is_same+in_ok-push w ↦
          (let rules = w.rules.ensures f c.distances-saved.ensures in
          let apart : (before.lowered ≡ now.lowered) × (before.saved ≡ now.saved) → ⊥ =
          λ same. (let found = c.is_same.ensures.1 same in let other = w.if-not-is_same.true in absurd cc) in
          subst (λ s. Next s c.if-not-is_same.rows) (sym w.before-is)
          (subst (Next now) (sym (w.rows-is ∙ w.in_ok-push.ensures.ok))
          (new_state f saves all i e before.lowered before.saved c.loop-entry.rows now.lowered now.saved w.rules.result are c.loop-entry-test.true
          c.entry-item.is is apart rules c.loop-entry.invariant)))
      | else-not-is_same w ↦
          (let same = c.is_same.ensures.0 w.if-not-is_same.false in
          subst (λ s. Next s c.if-not-is_same.rows) (sym w.before-is)
          (subst (Next before) (sym w.rows-is)
          (same_state f saves all i e before.lowered before.saved c.loop-entry.rows now.lowered now.saved are c.loop-entry-test.true c.entry-item.is is
          same.0 same.1 c.loop-entry.invariant)))
    ]

pub returns : goal.returns
returns c =
    let past : length c.args.entries.now ≤ c.loop-entry.entry-index = omega arith in
    done c.args.framed.now c.has_saved-saves.result c.args.entries.now c.loop-entry.entry-index c.loop-entry.before.lowered c.loop-entry.before.saved
    c.loop-entry.rows past c.loop-entry.invariant
