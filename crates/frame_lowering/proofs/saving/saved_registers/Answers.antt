use Rattle.std.proofs.Common.{◌≡◌, ◌++◌, ◌∷◌, [], Bool, cond, append-nil, ap, sym, ◌∙◌, arith}
use Rattle.mir_func.specs.SoundFrame.{SAVED}
use Rattle.frame_rule.specs.Rule.{is_set}
use Rattle.frame_lowering.proofs.Kept.{kept_more}
use Rattle.frame_lowering.proofs.saving.saved_registers.Goals as goal
use Rattle.frame_lowering.proofs.saving.saved_registers.Goals.{then-is_set+in_ok-push, else-is_set}

pub loop-n-preserved : goal.loop-n-preserved
loop-n-preserved c =
    let blocks = c.args.blocks.now in
    let x = c.register-register.result in
    let so_far = c.loop-n.saved in
    let more : c.if-is_set.saved ≡ so_far ++ cond (is_set blocks x) (x ∷ []) [] =
    elim c.if-is_set.branch [
      | then-is_set+in_ok-push w ↦
          w.saved-is ∙ (w.in_ok-push.ensures.ok ∙ ap (λ (b : Bool). so_far ++ cond b (x ∷ []) []) (sym (sym c.is_set.ensures ∙ w.if-is_set.true)))
      | else-is_set w ↦
          w.saved-is ∙ (sym (append-nil so_far) ∙ ap (λ (b : Bool). so_far ++ cond b (x ∷ []) []) (sym (sym c.is_set.ensures ∙ w.if-is_set.false)))
    ] in
    kept_more (is_set blocks) SAVED c.loop-n.n-index x so_far c.if-is_set.saved (omega arith) c.register-register.ensures c.loop-n.invariant more
