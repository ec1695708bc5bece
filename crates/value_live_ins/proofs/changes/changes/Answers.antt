use Rattle.std.proofs.Common.{get_or, refl, sym, ◌∙◌, subst}
use Rattle.std.specs.Prelude.{length}
use Rattle.std.proofs.lemmas.Option.{slice_get-get_or}
use Rattle.value_solver.specs.Joining.{SourceWithin, AreWithin}
use Rattle.value_solver.specs.declared.flow.Change.{Change}
use Rattle.value_live_ins.proofs.Changing.{ChangedBelow, KeptFrom, changed_same, changed_push, kept_more, kept_push, within_push}
use Rattle.value_live_ins.proofs.Changing.{decoded_within, all_changed, own_at, source_at_place}
use Rattle.value_live_ins.proofs.changes.changes.Goals as goal
use Rattle.value_live_ins.proofs.changes.changes.Goals.{then-class-j+in_ok-source_of+in_ok-push, else-class-j}

pub loop-j-preserved : goal.loop-j-preserved
loop-j-preserved c =
    let things = c.args.tracking.now.things.now in
    let j = c.loop-j.j in
    let old = c.loop-j.changes in
    let new = c.if-class-j.changes in
    let class_is = c.class_of-class.result in
    let lt = c.loop-j-test.true in
    let y = get_or things j c.index-tracking-j.result in
    let at = slice_get-get_or things j c.index-tracking-j.result lt in
    let before = c.loop-j.invariant in
    elim c.if-class-j.branch [
      | then-class-j+in_ok-source_of+in_ok-push w ↦
          let source = w.in_ok-source_of.field-0 in
          let change : Change = record { thing = j; source = source } in
          let is = w.changes-is ∙ w.in_ok-push.ensures.ok in
          record {
            each = λ class holds.
                changed_push things class j old new change refl is
                (source_at_place things class j class_is source y at (c.class_of-class.ensures class holds) w.in_ok-source_of.ensures)
                (before.each class holds);
            kept = kept_push j old new change refl is before.kept;
            within = within_push (length things) old new change is lt
                (subst (SourceWithin (length things)) (sym w.in_ok-source_of.ensures) (decoded_within (length things) class_is)) before.within;
          }
      | else-class-j w ↦
          let is = w.changes-is in
          record {
            each = λ class holds.
                changed_same things class j new lt (own_at things class j class_is y at (c.class_of-class.ensures class holds) w.if-class-j.false)
                (subst (ChangedBelow things class j) (sym is) (before.each class holds)) (subst (KeptFrom j) (sym is) before.kept);
            kept = kept_more j new (subst (KeptFrom j) (sym is) before.kept);
            within = subst (AreWithin (length things)) (sym is) before.within;
          }
    ]

pub returns-clause-changes : goal.returns-clause-changes
returns-clause-changes c = λ class holds.
    all_changed c.args.tracking.now.things.now class c.loop-j.j c.loop-j.changes c.loop-j-test.false (c.loop-j.invariant.each class holds)
