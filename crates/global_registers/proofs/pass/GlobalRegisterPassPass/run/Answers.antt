use Rattle.std.proofs.Common.{List, [], ◌∷◌, false, true, sym, subst}
use Rattle.mir_func.specs.Function.{Function}
use Rattle.pass_trait.specs.Change.{change}
use Rattle.pass_trait.specs.declared.loss.Loss.{Loss}
use Rattle.pass_trait.specs.Steps.{KeepsSteps}
use Rattle.pass_trait.specs.Simulation.{PreservesSimulation}
use Rattle.pass_trait.specs.Sizes.{KeepsSizes}
use Rattle.global_registers.specs.Pass.{shared_step}
use Rattle.global_registers.proofs.Sound.{sound_by}
use Rattle.global_registers.proofs.Follows.{shared_follows}
use Rattle.global_registers.proofs.Debug.{shared_steps}
use Rattle.global_registers.proofs.Sizes.{sizes_shared}
use Rattle.global_registers.proofs.pass.GlobalRegisterPassPass.run.Goals as goal

pub returns-clause-follows : goal.returns-clause-follows
returns-clause-follows c = λ fits.
    let f : Function = c.args.f.now in
    let shares = c.args.self.now.shares in
    let sound = c.share.ensures.sound in
    subst (λ (g : Function). PreservesSimulation false true (change f c.args._subs.now g c.args._subs.now)) (sym c.in_ok-share.ensures.code)
    (shared_follows shares f c.args._subs.now sound (sound_by shares f sound))

pub returns-clause-steps : goal.returns-clause-steps
returns-clause-steps c =
    let f : Function = c.args.f.now in
    let shares = c.args.self.now.shares in
    let P : List Loss → Function → Type 0 = λ losses g. KeepsSteps (shared_step shares ∷ []) (change f c.args._subs.now g c.args._subs.now) losses in
    subst (λ (losses : List Loss). P losses c.share.new.f) (sym c.new.ensures)
    (subst (P []) (sym c.in_ok-share.ensures.code) (shared_steps shares f c.share.ensures.sound c.args._subs.now))

pub returns-clause-sizes : goal.returns-clause-sizes
returns-clause-sizes c =
    let f : Function = c.args.f.now in
    let shares = c.args.self.now.shares in
    subst (λ (g : Function). KeepsSizes 1 0 (change f c.args._subs.now g c.args._subs.now)) (sym c.in_ok-share.ensures.code)
    (sizes_shared shares 0 f c.args._subs.now)
