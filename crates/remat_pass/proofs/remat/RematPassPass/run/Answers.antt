use Rattle.std.proofs.Common.{List, [], ◌∷◌, false, true, sym, subst}
use Rattle.mir_func.specs.Function.{Function}
use Rattle.pass_trait.specs.Change.{change}
use Rattle.pass_trait.specs.declared.loss.Loss.{Loss}
use Rattle.pass_trait.specs.Steps.{KeepsSteps}
use Rattle.pass_trait.specs.Simulation.{PreservesSimulation}
use Rattle.pass_trait.specs.Sizes.{KeepsSizes}
use Rattle.remat_pass.specs.Pass.{remat_step}
use Rattle.remat_pass.proofs.Sound.{sound_rematerialized}
use Rattle.remat_pass.proofs.Follows.{rematerialized_follows}
use Rattle.remat_pass.proofs.Debug.{remat_steps}
use Rattle.remat_pass.proofs.Sizes.{sizes_rematerialized}
use Rattle.remat_pass.proofs.remat.RematPassPass.run.Goals as goal

pub returns-clause-follows : goal.returns-clause-follows
returns-clause-follows c = λ fits.
    let f : Function = c.args.f.now in
    let sound = c.set_constants.ensures.sound in
    subst (λ (g : Function). PreservesSimulation false true (change f c.args._subs.now g c.args._subs.now)) (sym c.in_ok-set_constants.ensures.code)
    (rematerialized_follows f c.args._subs.now sound (sound_rematerialized f sound) c.in_ok-set_constants.ensures.forms)

pub returns-clause-steps : goal.returns-clause-steps
returns-clause-steps c =
    let f : Function = c.args.f.now in
    let P : List Loss → Function → Type 0 = λ losses g. KeepsSteps (remat_step ∷ []) (change f c.args._subs.now g c.args._subs.now) losses in
    subst (λ (losses : List Loss). P losses c.set_constants.new.f) (sym c.new.ensures)
    (subst (P []) (sym c.in_ok-set_constants.ensures.code) (remat_steps f c.set_constants.ensures.sound c.args._subs.now))

pub returns-clause-sizes : goal.returns-clause-sizes
returns-clause-sizes c =
    let f : Function = c.args.f.now in
    subst (λ (g : Function). KeepsSizes 1 1 (change f c.args._subs.now g c.args._subs.now)) (sym c.in_ok-set_constants.ensures.code)
    (sizes_rematerialized 1 f c.args._subs.now)
