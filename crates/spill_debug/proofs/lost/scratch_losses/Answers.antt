use Rattle.std.proofs.Common.{◌≡◌, ℕ, List, ◌++◌, ap, sym, ◌∙◌, subst}
use Rattle.mir_func.specs.declared.block.Block.{Block}
use Rattle.mir_func.specs.declared.position.Pos.{Pos}
use Rattle.pass_trait.specs.declared.loss.Loss.{Loss}
use Rattle.pass_trait.specs.declared.loss.Reason.TheVariants.{Scratch}
use Rattle.pass_trait.specs.Order.{IsInOrder}
use Rattle.pass_trait.specs.Rule.{AreNumbersLost}
use Rattle.spill_debug.specs.Lost.{AreMarksLost, AreScratchLosses}
use Rattle.spill_debug.proofs.Silenced.{scratch_each, numbers_then_marks}
use Rattle.spill_debug.proofs.lost.scratch_losses.Goals as goal

pub returns-clause-ordered : goal.returns-clause-ordered
returns-clause-ordered c =
    let e : c.extend_from_slice.new.self ≡ c.in_ok-losses.losses ++ c.in_ok-lost.lost =
    c.in_ok-extend_from_slice.ensures.ok ∙ ap (λ (ms : List Loss). c.in_ok-losses.losses ++ ms) c.as_slice.ensures in
    subst IsInOrder (sym e)
    (numbers_then_marks c.in_ok-numbers.numbers.items c.in_ok-marks.marks.items Scratch c.in_ok-losses.losses c.in_ok-lost.lost c.in_ok-losses.ensures.ordered
    c.in_ok-lost.ensures.ordered c.in_ok-losses.ensures.each c.in_ok-lost.ensures.each)

pub returns-clause-each : goal.returns-clause-each
returns-clause-each c =
    let e : c.extend_from_slice.new.self ≡ c.in_ok-losses.losses ++ c.in_ok-lost.lost =
    c.in_ok-extend_from_slice.ensures.ok ∙ ap (λ (ms : List Loss). c.in_ok-losses.losses ++ ms) c.as_slice.ensures in
    let blocks : List Block = c.args.blocks.now in
    subst (AreScratchLosses c.args.s.now blocks) (sym e)
    (scratch_each c.args.s.now blocks c.in_ok-losses.losses c.in_ok-lost.lost
    (subst (λ (ns : List ℕ). AreNumbersLost ns Scratch c.in_ok-losses.losses) c.in_ok-numbers.ensures c.in_ok-losses.ensures.each)
    (subst (λ (ps : List Pos). AreMarksLost ps Scratch c.in_ok-lost.lost) c.in_ok-marks.ensures c.in_ok-lost.ensures.each))
