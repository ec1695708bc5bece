use Rattle.std.proofs.Common.{[], ◌∷◌, ◌++◌, refl, ap, ◌∙◌}
use Rattle.sem_interpreter.proofs.Marking.{turn_keeps, turn_drops, kept_all}
use Rattle.sem_interpreter.proofs.assignments.after.Goals as goal
use Rattle.sem_interpreter.proofs.assignments.after.Goals.{then-not-covers+in_ok-push-2, else-not-covers}

pub loop-old-init : goal.loop-old-init
loop-old-init c = ([], c.in_ok-push.ensures.ok ∙ ap (λ xs. xs ++ (c.args.part.now, c.args.value) ∷ []) c.new-made.ensures, λ b h. refl)

pub loop-old-preserved : goal.loop-old-preserved
loop-old-preserved c =
    let k = c.loop-old.invariant in
    let parts = c.args.parts.now in
    let i = c.loop-old.old-index in
    let o = c.old-item.result in
    elim c.if-not-covers.branch [
      | then-not-covers+in_ok-push-2 w ↦ rw w.made-is (
        k.0 ++ o ∷ [],
        w.in_ok-push-2.ensures.ok ∙ ap (λ xs. xs ++ o ∷ []) k.1,
        λ b h. turn_keeps b k.0 parts i o _ c.loop-old-test.true c.old-item.is (k.2 b h),
      )
      | else-not-covers w ↦ rw w.made-is (
        k.0,
        k.1,
        λ b h. turn_drops b c.args.part.now k.0 parts i o _ c.loop-old-test.true c.old-item.is
            (w.if-not-covers.ensures refl) h (k.2 b h),
      )
    ]

pub returns : goal.returns
returns c = λ b.
    let k = c.loop-old.invariant in
    kept_all b c.args.part.now c.args.value c.loop-old.made k.0 c.args.parts.now c.loop-old.old-index c.loop-old-test.false k.1 (k.2 b)
