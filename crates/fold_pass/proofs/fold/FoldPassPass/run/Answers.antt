use Rattle.std.proofs.Common.{[], ◌∷◌, ◌≡◌}
use Rattle.mir_func.specs.Function.{Function}
use Rattle.mir_func.specs.Sound.{AllItems, HasForm}
use Rattle.pass_trait.specs.Change.{change}
use Rattle.pass_trait.specs.Sizes.{KeepsSizes}
use Rattle.pass_trait.specs.Steps.{KeepsSteps}
use Rattle.pass_trait.proofs.Results.{both_ok}
use Rattle.fold_proof.specs.Debug.{fold_step}
use Rattle.fold_pass.specs.Folded.{AreFoldedWithLosses}
use Rattle.fold_pass.proofs.Folding.{with_all_kills}
use Rattle.fold_pass.proofs.Running.{fold_steps}
use Rattle.fold_pass.proofs.fold.FoldPassPass.run.Goals as goal

pub returns-clause-follows : goal.returns-clause-follows
returns-clause-follows c =
    let f : Function = c.args.f.now in
    let g : Function = c.fold.new.f in
    both_ok c.fold.result (λ losses. AreFoldedWithLosses f.blocks g.blocks losses × (g ≡ record f { blocks = g.blocks }))
    (λ losses. AllItems (λ i. HasForm i.kind) f.blocks) _
    (both_ok c.fold.result (AreFoldedWithLosses f.blocks g.blocks) (λ losses. g ≡ record f { blocks = g.blocks }) _ c.fold.ensures.folded c.fold.ensures.same
    (λ losses h same. (h, same))) c.fold.ensures.forms
    (λ losses h forms fits. c.folded_follows.ensures f g c.args._subs.now c.fold.ensures.sound forms (with_all_kills f g losses h.0 h.1))

pub returns-clause-steps : goal.returns-clause-steps
returns-clause-steps c =
    let f : Function = c.args.f.now in
    let g : Function = c.fold.new.f in
    both_ok c.fold.result (AreFoldedWithLosses f.blocks g.blocks) (λ losses. g ≡ record f { blocks = g.blocks })
    (KeepsSteps (fold_step ∷ []) (change f c.args._subs.now g c.args._subs.now)) c.fold.ensures.folded c.fold.ensures.same
    (λ losses h same. fold_steps c.kills_strip.ensures c.folded_keeps_items.ensures f g c.args._subs.now losses c.fold.ensures.sound h same)

pub returns-clause-sizes : goal.returns-clause-sizes
returns-clause-sizes c =
    let f : Function = c.args.f.now in
    let g : Function = c.fold.new.f in
    both_ok c.fold.result (AreFoldedWithLosses f.blocks g.blocks) (λ losses. g ≡ record f { blocks = g.blocks })
    (λ losses. KeepsSizes 1 1 (change f c.args._subs.now g c.args._subs.now)) c.fold.ensures.folded c.fold.ensures.same
    (λ losses h same. c.folded_keeps_sizes.ensures f g c.args._subs.now c.fold.ensures.sound (with_all_kills f g losses h same))
