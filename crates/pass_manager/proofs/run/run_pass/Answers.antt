use Rattle.std.proofs.Common.{ℕ, List, IfOk, sym, subst}
use Rattle.pass_trait.specs.Change.{change}
use Rattle.pass_trait.specs.Steps.{KeepsSteps}
use Rattle.pass_list.specs.declared.kind.PassKind.{PassKind}
use Rattle.pass_list.specs.declared.kind.PassKind.TheVariants.{Copy, Remat, Spill, Dead, Fold}
use Rattle.pass_manager.specs.Passes.{steps_of_pass}
use Rattle.pass_manager.proofs.Passes.{pass_shown}
use Rattle.pass_manager.proofs.run.run_pass.Goals as goal

pub returns-in-Copy-clause-shown : goal.returns-in-Copy-clause-shown
returns-in-Copy-clause-shown c =
    pass_shown c.args.reserve.now Copy c.run.result (change c.args.f.now c.args.subs.now c.run.new.f c.run.new.subs) c.run.ensures.steps

pub returns-in-Remat-clause-shown : goal.returns-in-Remat-clause-shown
returns-in-Remat-clause-shown c =
    pass_shown c.args.reserve.now Remat c.run-in-Remat.result (change c.args.f.now c.args.subs.now c.run-in-Remat.new.f c.run-in-Remat.new._subs)
    c.run-in-Remat.ensures.steps

pub returns-in-Dead-clause-shown : goal.returns-in-Dead-clause-shown
returns-in-Dead-clause-shown c =
    pass_shown c.args.reserve.now Dead c.run-in-Dead.result (change c.args.f.now c.args.subs.now c.run-in-Dead.new.f c.run-in-Dead.new.subs)
    c.run-in-Dead.ensures.steps

pub returns-in-Fold-clause-shown : goal.returns-in-Fold-clause-shown
returns-in-Fold-clause-shown c =
    pass_shown c.args.reserve.now Fold c.run-in-Fold.result (change c.args.f.now c.args.subs.now c.run-in-Fold.new.f c.run-in-Fold.new._subs)
    c.run-in-Fold.ensures.steps

pub returns-in_ok-reserve-in-Spill-clause-steps : goal.returns-in_ok-reserve-in-Spill-clause-steps
returns-in_ok-reserve-in-Spill-clause-steps c =
    let made = change c.args.f.now c.args.subs.now c.run-in-Spill.new.f c.run-in-Spill.new.subs in
    subst (λ (p : PassKind). IfOk c.run-in-Spill.result (KeepsSteps (steps_of_pass c.args.reserve.now p) made)) (sym c.in-Spill.is)
    (subst (λ (r : List ℕ). IfOk c.run-in-Spill.result (KeepsSteps (steps_of_pass r Spill) made)) c.in_ok-reserve-in-Spill.ensures
    c.run-in-Spill.ensures.steps)

pub returns-in_ok-reserve-in-Spill-clause-shown : goal.returns-in_ok-reserve-in-Spill-clause-shown
returns-in_ok-reserve-in-Spill-clause-shown c =
    pass_shown c.in_ok-reserve-in-Spill.reserve Spill c.run-in-Spill.result
    (change c.args.f.now c.args.subs.now c.run-in-Spill.new.f c.run-in-Spill.new.subs) c.run-in-Spill.ensures.steps
